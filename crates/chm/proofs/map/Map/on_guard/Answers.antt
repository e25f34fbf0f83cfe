use Rattle.std.proofs.Common.{sym, subst}
use Rattle.std.specs.Option.{IsSomeAnd}
use Rattle.bin_history.specs.Calls.{after}
use Rattle.lean_bins.specs.BinSlot.{IsInSlot}
use Rattle.bin_layout.specs.Views.{HomeView, place_of}
use Rattle.chm.proofs.map.Map.on_guard.Goals as goal

pub in_place-done-requires-clause-lies : goal.in_place-done-requires-clause-lies
in_place-done-requires-clause-lies g c =
    let after_is = after g.V.PartialEq.eq g.F.Remap.remapped g.F.Remap.merged in
    let lies = subst
    (λ o. IsSomeAnd o (IsInSlot g.K.PartialEq.eq after_is (place_of c.args.guard.home.now c.args.guard.class)))
    c.value.ensures.value c.requires.lies in
    subst
    (λ (h : HomeView). IsInSlot g.K.PartialEq.eq after_is (place_of h c.args.guard.class) c.value.result.now)
    c.requires.home lies

pub release-requires : goal.release-requires
release-requires g c =
    subst
    (λ (h : HomeView). IsInSlot g.K.PartialEq.eq (after g.V.PartialEq.eq g.F.Remap.remapped g.F.Remap.merged)
    (place_of h c.args.guard.class) c.in_place-done.new.bin_slot)
    (sym c.requires.home) c.in_place-done.ensures.lies
