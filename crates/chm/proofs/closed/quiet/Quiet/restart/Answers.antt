use Rattle.std.proofs.Common.{◌≡◌, ◌≤◌, ℕ, List, length, flat_map, sym, ap, subst, ◌∙◌, arith}
use Rattle.std.proofs.lemmas.List.{length-map}
use Rattle.hashkeys.specs.Classes.{IsTableSize}
use Rattle.hashkeys.specs.Hashing.{hash_of}
use Rattle.bin_history.proofs.Keys.{key_tells}
use Rattle.bin_history.specs.Calls.{after}
use Rattle.bin_history.specs.Entries.{HasDistinctKeys, lookup}
use Rattle.bin_history.specs.declared.form.Form.{Form}
use Rattle.count_ledger.specs.Opening.{left_in, lists_of}
use Rattle.chm.specs.Headline.{QuietView, entries_of}
use Rattle.bin_history.specs.Limits.{most_clients}
use Rattle.chm.specs.Refusals.{AreClients}
use Rattle.chm.specs.Reopened.{in_classes}
use Rattle.chm.specs.Sizes.{IsSizeFrom, most_bins_of}
use Rattle.chm.proofs.Closing.{opening_few}
use Rattle.chm.proofs.Sizes.{size_from-wide}
use Rattle.chm.proofs.Dealing.{positive, length-parts_by_class, distinct-parts_by_class, of_class-parts_by_class}
use Rattle.chm.proofs.Limits.{IsLimited-ok, IsLimited-refused}
use Rattle.chm.proofs.Passes.{new_passes-ledger, new_roster}
use Rattle.chm.proofs.Homes.{distinct}
use Rattle.chm.proofs.Reopening.{lookup-in_classes}
use Rattle.chm.proofs.closed.quiet.Quiet.restart.Goals as goal

pub open-requires-clause-size : goal.open-requires-clause-size
open-requires-clause-size g c =
    let len : length c.in_ok-bases.bases.items ≡ c.size_from-n.result =
    sym (length-map c.in_ok-bases.bases.items (λ b. b.items))
    ∙ ap (λ (l : List (List _)). length l) c.in_ok-bases.ensures.dealt
    ∙ length-parts_by_class g.K.HashKey.code c.args.salt c.size_from-n.result c.entries.result in
    subst IsTableSize (sym len) c.size_from-n.ensures.size

pub open-requires-clause-wide : goal.open-requires-clause-wide
open-requires-clause-wide g c =
    let len : length c.in_ok-bases.bases.items ≡ c.size_from-n.result =
    sym (length-map c.in_ok-bases.bases.items (λ b. b.items))
    ∙ ap (λ (l : List (List _)). length l) c.in_ok-bases.ensures.dealt
    ∙ length-parts_by_class g.K.HashKey.code c.args.salt c.size_from-n.result c.entries.result in
    let form_is : c.form-form.result ≡ c.args.self.now.ledger.form = c.form-form.ensures in
    let own : c.self.inside.n ≡ c.args.self.now.n = ap (λ (q : QuietView _ _ _). q.n) c.self.view_is in
    let opening : c.args.self.now.n ≤ most_bins_of c.args.self.now.ledger.form =
    opening_few c.args.self.now.n (most_bins_of c.args.self.now.ledger.form) c.args.self.now.bins c.lawful.ensures.walk
    c.lawful.ensures.few in
    let wide : c.size_from-n.result ≤ most_bins_of c.form-form.result =
    size_from-wide c.form-form.result c.self.inside.n c.mapping_count-count.result c.size_from-n.result
    (subst (λ (f : Form). c.self.inside.n ≤ most_bins_of f) (sym form_is) (omega (arith, own, opening)))
    c.size_from-n.ensures in
    omega (arith, len, wide)

pub open-requires-clause-distinct : goal.open-requires-clause-distinct
open-requires-clause-distinct g c =
    let tells = key_tells g.met.K.Eq.laws g.met.K.HashKey.equal_is_same in
    let with_roles = c.lawful.ensures.with_roles in
    let walk = c.lawful.ensures.walk in
    let pairs : HasDistinctKeys g.K.PartialEq.eq (entries_of c.args.self.now.bins) =
    distinct g.K.PartialEq.eq tells g.K.HashKey.code
    (after g.V.PartialEq.eq g.F.Remap.remapped g.F.Remap.merged) _ c.args.self.now.bins c.args.self.now.roles with_roles
    (λ k. (let one = walk.each_hash (hash_of c.args.self.now.ledger.salt (g.K.HashKey.code k)) in omega arith)) in
    distinct-parts_by_class g.K.PartialEq.eq tells g.K.HashKey.code c.args.salt c.size_from-n.result c.entries.result
    c.in_ok-bases.bases
    (subst (HasDistinctKeys g.K.PartialEq.eq) (sym c.entries.ensures) pairs) c.in_ok-bases.ensures.dealt

pub open-requires-clause-of_class : goal.open-requires-clause-of_class
open-requires-clause-of_class g c =
    of_class-parts_by_class g.K.HashKey.code c.args.salt c.size_from-n.result c.entries.result
    (lists_of c.in_ok-bases.bases) c.in_ok-bases.ensures.dealt

pub returns-clause-new : goal.returns-clause-new
returns-clause-new g c =
    let pairs = entries_of c.args.self.now.bins in
    let n = c.in_ok-open.field-0.0.n in
    let len : length c.in_ok-bases.bases.items ≡ c.size_from-n.result =
    sym (length-map c.in_ok-bases.bases.items (λ b. b.items))
    ∙ ap (λ (l : List (List _)). length l) c.in_ok-bases.ensures.dealt
    ∙ length-parts_by_class g.K.HashKey.code c.args.salt c.size_from-n.result c.entries.result
    in
    let n_is = c.in_ok-open.ensures.n ∙ len in
    let form_is : c.form-form.result ≡ c.args.self.now.ledger.form = c.form-form.ensures in
    let own : c.self.inside.n ≡ c.args.self.now.n = ap (λ (q : QuietView _ _ _). q.n) c.self.view_is in
    let opening : c.in_ok-open.field-0.0.ledger.opening ≡ in_classes g.K.HashKey.code c.args.salt n pairs =
    c.in_ok-open.ensures.opening
    ∙ ap (λ (ls : List (List _)). flat_map (λ l. l) ls) c.in_ok-bases.ensures.dealt
    ∙ (λ i. in_classes g.K.HashKey.code c.args.salt (sym n_is i) (c.entries.ensures i))
    in
    let size : IsSizeFrom c.args.self.now.ledger.form c.args.self.now.n (length pairs) n =
    subst (IsSizeFrom c.args.self.now.ledger.form c.args.self.now.n (length pairs)) (sym n_is)
    (subst (λ (k : ℕ). IsSizeFrom c.args.self.now.ledger.form c.args.self.now.n k c.size_from-n.result) c.mapping_count-count.ensures
    (subst (λ (f : Form). IsSizeFrom f c.args.self.now.n c.mapping_count-count.result c.size_from-n.result) form_is
    (subst (λ (m : ℕ). IsSizeFrom c.form-form.result m c.mapping_count-count.result c.size_from-n.result) own
    c.size_from-n.ensures)))
    in
    let tells = key_tells g.met.K.Eq.laws g.met.K.HashKey.equal_is_same in
    let passes = ap left_in c.in_ok-open.ensures.roster ∙ new_roster c.in_ok-open.field-0.0.ledger.id c.args.clients in
    record {
      form = c.in_ok-open.ensures.form ∙ form_is;
      salt = c.in_ok-open.ensures.salt;
      clients = c.in_ok-open.ensures.clients;
      opening = opening;
      same_map = λ k.
          ap (λ (es : List (_ × _)). lookup g.K.PartialEq.eq es k) opening
          ∙ lookup-in_classes g.K.PartialEq.eq tells g.K.HashKey.code c.args.salt n pairs k (positive n size.size);
      size = size;
      passes = passes;
      own = new_passes-ledger _ _ _ passes;
    }

pub returns-in_err-bases-clause-limits : goal.returns-in_err-bases-clause-limits
returns-in_err-bases-clause-limits g c = IsLimited-refused _ _ _ _ c.from_residual-in_err-bases.ensures.1
    (let count = c.mapping_count-count.ensures in let few = c.if-count-gt-MOST_PAIRS.false in
    omega (arith, count, few)) (subst (λ (f : Form). AreClients (most_clients f) c.args.clients)
    c.form-form.ensures (
      c.if-clients-lt1.false,
      subst (λ (n : ℕ). c.args.clients ≤ n)
          c.most_clients.ensures c.if-clients-most_clients.false,
    ))

pub returns-in_err-clone-2-clause-limits : goal.returns-in_err-clone-2-clause-limits
returns-in_err-clone-2-clause-limits g c = IsLimited-refused _ _ _ _ c.from_residual-in_err-clone-2.ensures.1
    (let count = c.mapping_count-count.ensures in let few = c.if-count-gt-MOST_PAIRS.false in
    omega (arith, count, few)) (subst (λ (f : Form). AreClients (most_clients f) c.args.clients)
    c.form-form.ensures (
      c.if-clients-lt1.false,
      subst (λ (n : ℕ). c.args.clients ≤ n)
          c.most_clients.ensures c.if-clients-most_clients.false,
    ))

pub returns-in_err-open-clause-limits : goal.returns-in_err-open-clause-limits
returns-in_err-open-clause-limits g c = IsLimited-refused _ _ _ _ c.from_residual-in_err-open.ensures.1
    (let count = c.mapping_count-count.ensures in let few = c.if-count-gt-MOST_PAIRS.false in
    omega (arith, count, few)) (subst (λ (f : Form). AreClients (most_clients f) c.args.clients)
    c.form-form.ensures (
      c.if-clients-lt1.false,
      subst (λ (n : ℕ). c.args.clients ≤ n)
          c.most_clients.ensures c.if-clients-most_clients.false,
    ))

pub returns-clause-limits : goal.returns-clause-limits
returns-clause-limits g c = IsLimited-ok _ _ _ _
    (let count = c.mapping_count-count.ensures in let few = c.if-count-gt-MOST_PAIRS.false in
    omega (arith, count, few)) (subst (λ (f : Form). AreClients (most_clients f) c.args.clients)
    c.form-form.ensures (
      c.if-clients-lt1.false,
      subst (λ (n : ℕ). c.args.clients ≤ n)
          c.most_clients.ensures c.if-clients-most_clients.false,
    ))
