use Rattle.std.proofs.Common.{◌≡◌, Option, IsSomeAnd, refl, sym, subst}
use Rattle.hashkeys.specs.Classes.{ClassView}
use Rattle.bin_history.specs.Calls.{after}
use Rattle.lean_bins.specs.BinSlot.{IsInSlot}
use Rattle.bin_layout.specs.Views.{HomeView, place_of}
use Rattle.part_walks.specs.Parts.{IsFirstOf}
use Rattle.chm.specs.Retained.{HasStoppedAt, IsStoppedIn}
use Rattle.chm.specs.declared.fault.Fault.{Fault}
use Rattle.chm.proofs.Sure.{IfErr-of, IsMadeOrFull-of}
use Rattle.chm.proofs.map.Map.retain_guarded.Goals as goal

pub retain_in_place-done-requires-clause-lies : goal.retain_in_place-done-requires-clause-lies
retain_in_place-done-requires-clause-lies g c =
    let after_is = after g.V.PartialEq.eq g.F.Remap.remapped g.F.Remap.merged in
    let lies = subst
    (λ o. IsSomeAnd o (IsInSlot g.K.PartialEq.eq after_is (place_of c.args.held.home.now c.args.held.class)))
    c.value.ensures.value c.requires.lies in
    subst
    (λ (h : HomeView). IsInSlot g.K.PartialEq.eq after_is (place_of h c.args.held.class) c.value.result.now)
    c.requires.home lies

pub release-requires : goal.release-requires
release-requires g c =
    subst
    (λ (h : HomeView). IsInSlot g.K.PartialEq.eq (after g.V.PartialEq.eq g.F.Remap.remapped g.F.Remap.merged)
    (place_of h c.args.held.class) c.retain_in_place-done.new.bin_slot)
    (sym c.requires.home) c.retain_in_place-done.ensures.lies

pub go_past-requires : goal.go_past-requires
go_past-requires g c =
    record {
      first = subst (λ o. IsSomeAnd o (λ k. IsFirstOf k c.narrower-class.result)) (sym c.requires.next)
          c.narrower-class.ensures.first;
    }

pub returns-clause-kept : goal.returns-clause-kept
returns-clause-kept g c = (c.narrower-class.result, c.in_ok-done.ensures.kept, c.go_past.ensures.passed)

pub returns-in_err-done-clause-stopped : goal.returns-in_err-done-clause-stopped
returns-in_err-done-clause-stopped g c =
    let same = g.K.PartialEq.eq in
    let code = g.K.HashKey.code in
    let its_after = after g.V.PartialEq.eq g.F.Remap.remapped g.F.Remap.merged in
    let ledger = c.args.self.now.ledger in
    let class = c.narrower-class.result in
    let p = c.args.keeps.now in
    let old = c.args.pass.now in
    let q = c.retain_in_place-done.new.keeps in
    let end = c.retain_in_place-done.new.pass in
    let P : Fault → Type 0 = λ fault. IsSomeAnd c.args.cursor.now.next (λ (k : ClassView). HasStoppedAt (goal.G-step g) same
    code its_after ledger fault k p old q end) × (c.args.cursor.now ≡ c.args.cursor.now) in
    let at : (fault : Fault) → IsStoppedIn (goal.G-step g) same code its_after ledger fault class p old q end → P fault =
    λ fault stopped. (
      subst (λ (o : Option ClassView). IsSomeAnd o (λ (k : ClassView). HasStoppedAt (goal.G-step g) same code its_after
          ledger fault k p old q end)) (sym c.requires.next) (class, c.narrower-class.ensures.first, stopped),
      refl,
    ) in
    IfErr-of P c.from_residual.result _ c.from_residual.ensures.1 (at _ c.in_err-done.ensures.stopped)

pub returns-in_err-done-clause-sure : goal.returns-in_err-done-clause-sure
returns-in_err-done-clause-sure g c = λ keys.
    IsMadeOrFull-of c.from_residual.result _ c.from_residual.ensures.1
    (c.in_err-done.ensures.sure keys)
