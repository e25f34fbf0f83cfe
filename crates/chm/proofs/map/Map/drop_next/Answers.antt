use Rattle.std.proofs.Common.{◌≡◌, ◌<◌, ◌≤◌, true, List, length, refl, sym, ap, subst, ◌∙◌, arith}
use Rattle.std.proofs.lemmas.Bool.{false≢true}
use Rattle.std.proofs.lemmas.Result.{IfOk-from_err}
use Rattle.hashkeys.specs.Classes.{is_of}
use Rattle.bin_history.proofs.Keys.{key_tells}
use Rattle.bin_history.proofs.Lawful.{recorded_is_not_lean}
use Rattle.count_ledger.specs.Limits.{most_calls}
use Rattle.count_ledger.specs.Views.{PassView}
use Rattle.chm.specs.Retained.{HasStopped}
use Rattle.chm.specs.Views.{MapView}
use Rattle.chm.specs.declared.fault.Fault.TheVariants.{NoMemory}
use Rattle.chm.proofs.Clearing.{unchanged}
use Rattle.chm.proofs.PartVisits.{all_of}
use Rattle.chm.proofs.Removing.{entry_behind, entry_of, found_as, gone_by, kept_as, part_as, removed_by}
use Rattle.chm.proofs.Retaining.{kept_none, kept_rest, settled_more, stopped_full, stopped_memory}
use Rattle.chm.proofs.Sure.{IfErr-of}
use Rattle.chm.proofs.map.Map.drop_next.Goals as goal

pub is_left_behind-requires : goal.is_left_behind-requires
is_left_behind-requires g c =
    let b = c.args.bin.now in
    record {
      own = all_of g.K.HashKey.code b.entries c.walk-walk.result c.salt-salt.result b.salt c.class-own.result b.class
          c.salt-salt.ensures c.class-own.ensures c.walk-walk.ensures c.lawful.ensures.lawful.of_class;
    }

pub first_refused-requires-clause-own : goal.first_refused-requires-clause-own
first_refused-requires-clause-own g c =
    let b = c.args.bin.now in
    all_of g.K.HashKey.code b.entries c.walk-walk.result c.salt-salt.result b.salt c.class-own.result b.class
    c.salt-salt.ensures c.class-own.ensures c.walk-walk.ensures c.lawful.ensures.lawful.of_class

pub returns-then-is_left_behind-clause-removed : goal.returns-then-is_left_behind-clause-removed
returns-then-is_left_behind-clause-removed g c = unchanged c.args.pass.now c.args.pass.now refl

pub returns-then-made-most_calls-clause-removed : goal.returns-then-made-most_calls-clause-removed
returns-then-made-most_calls-clause-removed g c = unchanged c.args.pass.now c.args.pass.now refl

pub returns-in_default-clause-removed : goal.returns-in_default-clause-removed
returns-in_default-clause-removed g c = unchanged c.args.pass.now c.args.pass.now refl

pub returns-in_err-key-clause-removed : goal.returns-in_err-key-clause-removed
returns-in_err-key-clause-removed g c = unchanged c.args.pass.now c.args.pass.now refl

pub returns-in_err-call_by_value-clause-removed : goal.returns-in_err-call_by_value-clause-removed
returns-in_err-call_by_value-clause-removed g c =
    unchanged c.args.pass.now c.call_by_value.new.pass c.in_err-call_by_value.ensures.refused

-- there is one left, and the pass is full
pub returns-then-is_left_behind-clause-stopped : goal.returns-then-is_left_behind-clause-stopped
returns-then-is_left_behind-clause-stopped g c = λ p start x.
    let code = g.K.HashKey.code in
    let ledger = c.args.self.now.ledger in
    let own : c.self.inside.ledger ≡ ledger = ap (λ (m : MapView _ _). m.ledger) c.self.view_is in
    let (e, rest, some) = c.is_left_behind.ensures.some c.if-is_left_behind.true in
    let made = c.made.ensures.value in
    let most : c.most_calls.result ≡ most_calls ledger.form ledger.clients =
    c.most_calls.ensures ∙ (λ i. most_calls (own i).form (own i).clients) in
    let full = c.if-made-most_calls.true in
    let es = c.args.bin.now.entries in
    stopped_full (goal.G-step g) code ledger c.args.class p start c.args.keeps.now c.args.pass.now c.args.past es e rest x
    (omega (arith, full, made, most))
    (part_as code c.args.class c.args.past c.salt-salt.result ledger.salt c.walk-walk.result es _
    (c.salt-salt.ensures ∙ c.requires.salt) c.walk-walk.ensures some)

-- the pass is full, and none is left
pub returns-then-made-most_calls-clause-kept : goal.returns-then-made-most_calls-clause-kept
returns-then-made-most_calls-clause-kept g c = λ p start x.
    let code = g.K.HashKey.code in
    let ledger = c.args.self.now.ledger in
    let es = c.args.bin.now.entries in
    kept_none (goal.G-step g) code ledger c.args.class p start c.args.keeps.now c.args.pass.now c.args.past es x
    (part_as code c.args.class c.args.past c.salt-salt.result ledger.salt c.walk-walk.result es _
    (c.salt-salt.ensures ∙ c.requires.salt) c.walk-walk.ensures (c.is_left_behind.ensures.none c.if-is_left_behind.false))

-- the rest stays
pub returns-in_default-clause-kept : goal.returns-in_default-clause-kept
returns-in_default-clause-kept g c = λ p start x.
    let code = g.K.HashKey.code in
    let ledger = c.args.self.now.ledger in
    let own : c.self.inside.ledger ≡ ledger = ap (λ (m : MapView _ _). m.ledger) c.self.view_is in
    let made = c.made.ensures.value in
    let most : c.most_calls.result ≡ most_calls ledger.form ledger.clients =
    c.most_calls.ensures ∙ (λ i. most_calls (own i).form (own i).clients) in
    let room = c.if-made-most_calls.false in
    let es = c.args.bin.now.entries in
    kept_rest (goal.G-step g) code ledger c.args.class p start c.args.keeps.now c.first_refused.new.keeps c.args.pass.now
    c.args.past es x (omega (arith, room, made, most))
    (kept_as (goal.G-step g) code c.args.class c.args.keeps.now c.first_refused.new.keeps c.args.past c.salt-salt.result
    ledger.salt c.walk-walk.result es (c.salt-salt.ensures ∙ c.requires.salt) c.walk-walk.ensures c.in_default.ensures.none)

-- there was no memory for a copy of the key
pub returns-in_err-key-clause-stopped : goal.returns-in_err-key-clause-stopped
returns-in_err-key-clause-stopped g c = λ p start x.
    let code = g.K.HashKey.code in
    let ledger = c.args.self.now.ledger in
    let own : c.self.inside.ledger ≡ ledger = ap (λ (m : MapView _ _). m.ledger) c.self.view_is in
    let made = c.made.ensures.value in
    let most : c.most_calls.result ≡ most_calls ledger.form ledger.clients =
    c.most_calls.ensures ∙ (λ i. most_calls (own i).form (own i).clients) in
    let room = c.if-made-most_calls.false in
    let es = c.args.bin.now.entries in
    let found = found_as (goal.G-step g) code c.args.class c.args.keeps.now c.first_refused.new.keeps c.args.past
    c.in-Some.place c.in-Some.entry.now c.salt-salt.result ledger.salt c.walk-walk.result es
    (c.salt-salt.ensures ∙ c.requires.salt) c.walk-walk.ensures c.in-Some.ensures.found in
    IfErr-of
    (λ fault. HasStopped (goal.G-step g) code ledger c.args.class fault p start c.first_refused.new.keeps c.args.pass.now es)
    c.from_residual.result NoMemory c.from_residual.ensures.1
    (stopped_memory (goal.G-step g) code ledger c.args.class p start c.args.keeps.now c.first_refused.new.keeps
    c.args.pass.now c.args.past c.in-Some.place es c.in-Some.entry.now x (omega (arith, room, made, most)) found)

-- there was no memory for the remove
pub returns-in_err-call_by_value-clause-stopped : goal.returns-in_err-call_by_value-clause-stopped
returns-in_err-call_by_value-clause-stopped g c = λ p start x.
    let code = g.K.HashKey.code in
    let ledger = c.args.self.now.ledger in
    let own : c.self.inside.ledger ≡ ledger = ap (λ (m : MapView _ _). m.ledger) c.self.view_is in
    let made = c.made.ensures.value in
    let most : c.most_calls.result ≡ most_calls ledger.form ledger.clients =
    c.most_calls.ensures ∙ (λ i. most_calls (own i).form (own i).clients) in
    let room = c.if-made-most_calls.false in
    let es = c.args.bin.now.entries in
    let left = c.call_by_value.new.bin.entries in
    let new = c.call_by_value.new.pass in
    let found = found_as (goal.G-step g) code c.args.class c.args.keeps.now c.first_refused.new.keeps c.args.past
    c.in-Some.place c.in-Some.entry.now c.salt-salt.result ledger.salt c.walk-walk.result es
    (c.salt-salt.ensures ∙ c.requires.salt) c.walk-walk.ensures c.in-Some.ensures.found in
    IfErr-of
    (λ fault. HasStopped (goal.G-step g) code ledger c.args.class fault p start c.first_refused.new.keeps new left)
    c.from_residual-in_err-call_by_value.result NoMemory c.from_residual-in_err-call_by_value.ensures.1
    (subst (λ (w : PassView _ _ _). HasStopped (goal.G-step g) code ledger c.args.class NoMemory p start
    c.first_refused.new.keeps w left) (sym c.in_err-call_by_value.ensures.refused)
    (subst (λ (l : List (_ × _)). HasStopped (goal.G-step g) code ledger c.args.class NoMemory p start
    c.first_refused.new.keeps c.args.pass.now l) (sym c.in_err-call_by_value.ensures.stayed)
    (stopped_memory (goal.G-step g) code ledger c.args.class p start c.args.keeps.now c.first_refused.new.keeps
    c.args.pass.now c.args.past c.in-Some.place es c.in-Some.entry.now x (omega (arith, room, made, most)) found)))

pub returns-in_err-call_by_value-clause-sure : goal.returns-in_err-call_by_value-clause-sure
returns-in_err-call_by_value-clause-sure g c = λ lean keys values.
    absurd (false≢true (c.in_err-call_by_value.ensures.sure (record {
      key = keys _;
      values = values;
      asks_none = refl;
      record_room = λ recorded. absurd (recorded_is_not_lean (sym recorded ∙ c.requires.form ∙ lean));
      entry_room = λ _ adds. absurd (false≢true adds);
    })))

pub call_by_value-requires-clause-of_class : goal.call_by_value-requires-clause-of_class
call_by_value-requires-clause-of_class g c =
    let b = c.args.bin.now in
    let of = is_of g.K.HashKey.code b.salt b.class in
    let entry = c.in-Some.entry.now in
    let key = g.met.K.Exact.copies_exactly entry.0 c.in_ok-key.key c.in_ok-key.ensures.cases in
    let found = found_as (goal.G-step g) g.K.HashKey.code c.args.class c.args.keeps.now c.first_refused.new.keeps c.args.past
    c.in-Some.place entry c.salt-salt.result b.salt c.walk-walk.result b.entries c.salt-salt.ensures c.walk-walk.ensures
    c.in-Some.ensures.found in
    ap of key
    ∙ entry_of (λ e. of e.0 ≡ true) b.entries entry
    (entry_behind (goal.G-step g) (is_of g.K.HashKey.code b.salt c.args.class) c.args.keeps.now c.first_refused.new.keeps
    c.args.past c.in-Some.place b.entries entry found) c.lawful.ensures.lawful.of_class

-- it was removed
pub returns-clause-settled : goal.returns-clause-settled
returns-clause-settled g c = λ p start x.
    let code = g.K.HashKey.code in
    let ledger = c.args.self.now.ledger in
    let own : c.self.inside.ledger ≡ ledger = ap (λ (m : MapView _ _). m.ledger) c.self.view_is in
    let made = c.made.ensures.value in
    let most : c.most_calls.result ≡ most_calls ledger.form ledger.clients =
    c.most_calls.ensures ∙ (λ i. most_calls (own i).form (own i).clients) in
    let room = c.if-made-most_calls.false in
    let b = c.args.bin.now in
    let left_bin = c.call_by_value.new.bin in
    let entry = c.in-Some.entry.now in
    let key = g.met.K.Exact.copies_exactly entry.0 c.in_ok-key.key c.in_ok-key.ensures.cases in
    let found = found_as (goal.G-step g) code c.args.class c.args.keeps.now c.first_refused.new.keeps c.args.past
    c.in-Some.place entry c.salt-salt.result ledger.salt c.walk-walk.result b.entries
    (c.salt-salt.ensures ∙ c.requires.salt) c.walk-walk.ensures c.in-Some.ensures.found in
    let (r, its, has, left, less) = gone_by g.K.PartialEq.eq (key_tells g.met.K.Eq.laws g.met.K.HashKey.equal_is_same) code
    g.V.PartialEq.eq g.F.Remap.remapped g.F.Remap.merged (goal.G-step g) (is_of code ledger.salt c.args.class)
    c.args.keeps.now c.first_refused.new.keeps c.args.past c.in-Some.place ledger b left_bin entry c.in_ok-key.key
    c.args.pass.now c.call_by_value.new.pass _ found c.lawful.ensures.lawful.distinct key
    c.in_ok-call_by_value.ensures.called in
    settled_more (goal.G-step g) code ledger c.args.class p start c.args.keeps.now c.first_refused.new.keeps
    c.args.pass.now c.args.past c.in-Some.place b.entries entry x (omega (arith, room, made, most)) found
    c.call_by_value.new.pass r left_bin.entries its has left

pub returns-clause-fewer : goal.returns-clause-fewer
returns-clause-fewer g c =
    let code = g.K.HashKey.code in
    let ledger = c.args.self.now.ledger in
    let b = c.args.bin.now in
    let left_bin = c.call_by_value.new.bin in
    let entry = c.in-Some.entry.now in
    let key = g.met.K.Exact.copies_exactly entry.0 c.in_ok-key.key c.in_ok-key.ensures.cases in
    let found = found_as (goal.G-step g) code c.args.class c.args.keeps.now c.first_refused.new.keeps c.args.past
    c.in-Some.place entry c.salt-salt.result ledger.salt c.walk-walk.result b.entries
    (c.salt-salt.ensures ∙ c.requires.salt) c.walk-walk.ensures c.in-Some.ensures.found in
    let (r, its, has, left, less) = gone_by g.K.PartialEq.eq (key_tells g.met.K.Eq.laws g.met.K.HashKey.equal_is_same) code
    g.V.PartialEq.eq g.F.Remap.remapped g.F.Remap.merged (goal.G-step g) (is_of code ledger.salt c.args.class)
    c.args.keeps.now c.first_refused.new.keeps c.args.past c.in-Some.place ledger b left_bin entry c.in_ok-key.key
    c.args.pass.now c.call_by_value.new.pass _ found c.lawful.ensures.lawful.distinct key
    c.in_ok-call_by_value.ensures.called in
    less

pub returns-clause-removed : goal.returns-clause-removed
returns-clause-removed g c =
    let code = g.K.HashKey.code in
    let ledger = c.args.self.now.ledger in
    let b = c.args.bin.now in
    let left_bin = c.call_by_value.new.bin in
    let entry = c.in-Some.entry.now in
    let key = g.met.K.Exact.copies_exactly entry.0 c.in_ok-key.key c.in_ok-key.ensures.cases in
    let found = found_as (goal.G-step g) code c.args.class c.args.keeps.now c.first_refused.new.keeps c.args.past
    c.in-Some.place entry c.salt-salt.result ledger.salt c.walk-walk.result b.entries
    (c.salt-salt.ensures ∙ c.requires.salt) c.walk-walk.ensures c.in-Some.ensures.found in
    let (r, its, has, left, less) = gone_by g.K.PartialEq.eq (key_tells g.met.K.Eq.laws g.met.K.HashKey.equal_is_same) code
    g.V.PartialEq.eq g.F.Remap.remapped g.F.Remap.merged (goal.G-step g) (is_of code ledger.salt c.args.class)
    c.args.keeps.now c.first_refused.new.keeps c.args.past c.in-Some.place ledger b left_bin entry c.in_ok-key.key
    c.args.pass.now c.call_by_value.new.pass _ found c.lawful.ensures.lawful.distinct key
    c.in_ok-call_by_value.ensures.called in
    removed_by entry r c.args.pass.now c.call_by_value.new.pass its has

pub returns-then-is_left_behind-clause-settled : goal.returns-then-is_left_behind-clause-settled
returns-then-is_left_behind-clause-settled g c = λ p start x. tt

pub returns-then-is_left_behind-clause-kept : goal.returns-then-is_left_behind-clause-kept
returns-then-is_left_behind-clause-kept g c = λ p start x. tt

pub returns-then-made-most_calls-clause-settled : goal.returns-then-made-most_calls-clause-settled
returns-then-made-most_calls-clause-settled g c = λ p start x. tt

pub returns-then-made-most_calls-clause-stopped : goal.returns-then-made-most_calls-clause-stopped
returns-then-made-most_calls-clause-stopped g c = λ p start x. tt

pub returns-in_default-clause-settled : goal.returns-in_default-clause-settled
returns-in_default-clause-settled g c = λ p start x. tt

pub returns-in_default-clause-stopped : goal.returns-in_default-clause-stopped
returns-in_default-clause-stopped g c = λ p start x. tt

pub returns-clause-kept : goal.returns-clause-kept
returns-clause-kept g c = λ p start x. tt

pub returns-clause-stopped : goal.returns-clause-stopped
returns-clause-stopped g c = λ p start x. tt

pub returns-in_err-key-clause-settled : goal.returns-in_err-key-clause-settled
returns-in_err-key-clause-settled g c = λ p start x. IfOk-from_err c.from_residual.result _ c.from_residual.ensures.0

pub returns-in_err-key-clause-kept : goal.returns-in_err-key-clause-kept
returns-in_err-key-clause-kept g c = λ p start x. IfOk-from_err c.from_residual.result _ c.from_residual.ensures.0

pub returns-in_err-call_by_value-clause-settled : goal.returns-in_err-call_by_value-clause-settled
returns-in_err-call_by_value-clause-settled g c =
    λ p start x. IfOk-from_err c.from_residual-in_err-call_by_value.result _ c.from_residual-in_err-call_by_value.ensures.0

pub returns-in_err-call_by_value-clause-kept : goal.returns-in_err-call_by_value-clause-kept
returns-in_err-call_by_value-clause-kept g c =
    λ p start x. IfOk-from_err c.from_residual-in_err-call_by_value.result _ c.from_residual-in_err-call_by_value.ensures.0
