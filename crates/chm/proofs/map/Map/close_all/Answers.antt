use Rattle.std.proofs.Common.{◌≡◌, ◌≤◌, ℕ, List, Option, length, All, sym, ap, subst, ◌∙◌, arith}
use Rattle.hashkeys.specs.Classes.{CoverAll}
use Rattle.bin_history.proofs.Keys.{key_tells}
use Rattle.bin_history.specs.Calls.{after}
use Rattle.bin_history.specs.Entries.{replay}
use Rattle.bin_history.specs.Lawful.{BinView}
use Rattle.count_ledger.specs.Books.{classes_of_roles}
use Rattle.count_ledger.specs.Settled.{IsOrder}
use Rattle.count_ledger.specs.Views.{LedgerView, LedgerId, PassView, RoleView}
use Rattle.count_ledger.specs.Words.{word_of}
use Rattle.count_ledger.proofs.Covering.{CoverAll-once}
use Rattle.bin_layout.specs.BinsWithRoles.{classes_of_bins}
use Rattle.std.specs.declared.vec.Vec.{Vec}
use Rattle.chm.specs.Closing.{IsKnown, passes_with, seen_with, taken_with}
use Rattle.chm.specs.Headline.{QuietView, IsQuiet, entries_of}
use Rattle.chm.specs.Views.{MapView, bins_of}
use Rattle.chm.specs.declared.closed.close.Rest.{Rest}
use Rattle.chm.proofs.Closing.{ledgers_of_roles, count_of_bins, word_of_count, total_made-with, IsQuiet-closed}
use Rattle.chm.proofs.Closing.{NotClosed-missing, NotClosed-memory, NotClosed-bins}
use Rattle.chm.proofs.Ordering.{IsOneOrder-closed}
use Rattle.chm.proofs.map.Map.close_all.Goals as goal

pub returns-then-len-taken-clause-refused : goal.returns-then-len-taken-clause-refused
returns-then-len-taken-clause-refused g c =
    let is = c.taken.ensures ∙ ap (λ (n : ℕ). taken_with n c.args.rest) c.clients.ensures.value in
    let few = c.if-len-taken.true in
    let len = c.len.ensures in
    NotClosed-missing (taken_with c.args.self.ledger.clients c.args.rest) c.args.self c.args.passes.items
    (omega (arith, is, few, len))

pub returns-in_default-clause-refused : goal.returns-in_default-clause-refused
returns-in_default-clause-refused g c =
    let is = c.taken.ensures ∙ ap (λ (n : ℕ). taken_with n c.args.rest) c.clients.ensures.value in
    let all = c.if-len-taken.false in
    let len = c.len.ensures in
    NotClosed-memory (taken_with c.args.self.ledger.clients c.args.rest) c.args.self c.args.passes.items
    (omega (arith, is, all, len))

pub returns-in_default-into_leaves-clause-refused : goal.returns-in_default-into_leaves-clause-refused
returns-in_default-into_leaves-clause-refused g c =
    let is = c.taken.ensures ∙ ap (λ (n : ℕ). taken_with n c.args.rest) c.clients.ensures.value in
    let all = c.if-len-taken.false in
    let len = c.len.ensures in
    NotClosed-bins (taken_with c.args.self.ledger.clients c.args.rest) c.args.self c.args.passes.items
    (omega (arith, is, all, len))

pub settle_all-total-requires-clause-passes : goal.settle_all-total-requires-clause-passes
settle_all-total-requires-clause-passes g c k d lt =
    c.requires.own k d lt ∙ sym (ap (λ (m : MapView _ _). m.ledger.id) c.self.view_is)

pub settle_all-total-requires-clause-roles : goal.settle_all-total-requires-clause-roles
settle_all-total-requires-clause-roles g c =
    let after_calls = after g.V.PartialEq.eq g.F.Remap.remapped g.F.Remap.merged in
    let roles = ledgers_of_roles g.K.PartialEq.eq (key_tells g.met.K.Eq.laws g.met.K.HashKey.equal_is_same)
    g.K.HashKey.code after_calls c.self.inside.bins
    c.in-Some.bins.items c.in-Some.roles.items c.in-Some.ensures.with_roles in
    subst (λ (id : LedgerId). All (λ (r : RoleView _ _ _). r.ledger ≡ id) c.in-Some.roles.items) c.self.invariant.id
    roles

pub settle_all-total-requires-clause-cover : goal.settle_all-total-requires-clause-cover
settle_all-total-requires-clause-cover g c =
    subst CoverAll (sym c.in-Some.ensures.classes)
    (CoverAll-once (classes_of_bins c.in-Some.bins.items) c.in-Some.ensures.walk.each_hash)

pub invariant_of-result : goal.invariant_of-result
invariant_of-result g c =
    let calls = after g.V.PartialEq.eq g.F.Remap.remapped g.F.Remap.merged in
    let tells = key_tells g.met.K.Eq.laws g.met.K.HashKey.equal_is_same in
    let all = c.settle_all-total.ensures.agree in
    let Replayed : List (BinView _ _ _) → Type 0 =
    λ bins. All (λ (b : BinView _ _ _). b.entries ≡ replay g.K.PartialEq.eq b.base b.records) bins in
    let replayed_all : Replayed c.in-Some.bins.items = subst Replayed c.deref.ensures.value c.replayed.ensures in
    let counted = count_of_bins g.K.PartialEq.eq tells g.K.HashKey.code calls c.self.inside.bins c.in-Some.bins.items
    c.in-Some.roles.items c.in-Some.ensures.with_roles replayed_all in
    let home : c.self.inside.bins ≡ bins_of (record { ledger = c.self.inside.ledger; n = c.self.inside.bins.n }) =
    (λ i. record {
      ledger = c.self.invariant.id i;
      form = c.self.invariant.form i;
      salt = c.self.invariant.salt i;
      n = c.self.inside.bins.n;
    }) in
    let own = ap (λ (m : MapView _ _). m.ledger) c.self.view_is in
    let roles_are = ap (λ (v : Vec _ _). v.items) c.of-kept.ensures in
    let passes_are : passes_with c.of-2.result.value c.of.result.value.items
    ≡ passes_with c.args.rest c.args.passes.items =
    (λ i. passes_with (c.of-2.ensures i) (c.of.ensures i).items) in
    let quiet = IsQuiet-closed g.K.PartialEq.eq tells g.K.HashKey.code calls c.self.inside.bins c.n-n.result
    c.of-books.result.value c.self.inside.ledger c.in-Some.bins.items
    c.of-kept.result.value.items c.in-Some.roles.items
    (passes_with c.of-2.result.value c.of.result.value.items) (passes_with c.args.rest c.args.passes.items)
    c.of-books.ensures roles_are passes_are c.n-n.ensures.value home c.n-n.ensures.size
    c.in-Some.ensures.walk c.self.invariant.wide c.in-Some.ensures.few c.in-Some.ensures.with_roles all in
    let sum = c.settle_all-total.ensures.sum
    ∙ ap word_of (sym (total_made-with c.args.rest c.args.passes.items)) in
    let count = word_of_count g.K.HashKey.code c.self.inside.ledger (passes_with c.args.rest c.args.passes.items)
    c.in-Some.roles.items all c.self.inside.opened c.settle_all-total.result
    (length (entries_of c.in-Some.bins.items)) c.self.invariant.clients c.self.invariant.opened_is
    c.self.invariant.few sum counted in (
      quiet,
      c.salt-salt.ensures ∙ ap (λ (l : LedgerView _ _). l.salt) (sym own)
          ∙ ap (λ (l : LedgerView _ _). l.salt) (sym c.of-books.ensures),
      count,
      c.form-form.ensures ∙ ap (λ (l : LedgerView _ _). l.form) (sym own)
          ∙ ap (λ (l : LedgerView _ _). l.form) (sym c.of-books.ensures),
    )

pub returns-clause-known : goal.returns-clause-known
returns-clause-known g c =
    let calls_after = after g.V.PartialEq.eq g.F.Remap.remapped g.F.Remap.merged in
    let tells = key_tells g.met.K.Eq.laws g.met.K.HashKey.equal_is_same in
    let home : c.self.inside.bins ≡ bins_of (record { ledger = c.self.inside.ledger; n = c.self.inside.bins.n }) =
    (λ i. record {
      ledger = c.self.invariant.id i;
      form = c.self.invariant.form i;
      salt = c.self.invariant.salt i;
      n = c.self.inside.bins.n;
    }) in
    let roles_are = ap (λ (v : Vec _ _). v.items) c.of-kept.ensures in
    let passes_are : passes_with c.of-2.result.value c.of.result.value.items
    ≡ passes_with c.args.rest c.args.passes.items =
    (λ i. passes_with (c.of-2.ensures i) (c.of.ensures i).items) in
    let quiet = IsQuiet-closed g.K.PartialEq.eq tells g.K.HashKey.code calls_after c.self.inside.bins c.n-n.result
    c.of-books.result.value c.self.inside.ledger c.in-Some.bins.items
    c.of-kept.result.value.items c.in-Some.roles.items
    (passes_with c.of-2.result.value c.of.result.value.items) (passes_with c.args.rest c.args.passes.items)
    c.of-books.ensures roles_are passes_are c.n-n.ensures.value home c.n-n.ensures.size
    c.in-Some.ensures.walk c.self.invariant.wide c.in-Some.ensures.few c.in-Some.ensures.with_roles
    c.settle_all-total.ensures.agree in
    let (calls, order, begins) = c.settle_all-total.ensures.known in
    let order_is : IsOrder g.K.HashKey.code c.of-books.result.value
    (passes_with c.of-2.result.value c.of.result.value.items) c.of-kept.result.value.items calls =
    subst (λ (l : LedgerView _ _). IsOrder g.K.HashKey.code l
    (passes_with c.of-2.result.value c.of.result.value.items) c.of-kept.result.value.items calls)
    (sym c.of-books.ensures)
    (subst (λ (ps : List (PassView _ _ _)). IsOrder g.K.HashKey.code c.self.inside.ledger ps
    c.of-kept.result.value.items calls) (sym passes_are)
    (subst (λ (rs : List (RoleView _ _ _)). IsOrder g.K.HashKey.code c.self.inside.ledger
    (passes_with c.args.rest c.args.passes.items) rs calls) (sym roles_are) order)) in (
      calls,
      IsOneOrder-closed g.K.PartialEq.eq tells g.K.HashKey.code calls_after _ calls quiet order_is,
      begins,
    )
