use Rattle.std.proofs.Common.{sym, subst}
use Rattle.bin_history.specs.Calls.{after}
use Rattle.lean_bins.proofs.Halves.{lies_taken}
use Rattle.lean_bins.specs.BinSlot.{IsInSlot}
use Rattle.bin_layout.specs.Views.{HomeView, place_of}
use Rattle.test_stores.proofs.lean.maps.call_in_place.Goals as goal

pub make_in_place-made-requires-clause-lies : goal.make_in_place-made-requires-clause-lies
make_in_place-made-requires-clause-lies g c =
    let same = g.K.PartialEq.eq in
    let after_is = after g.V.PartialEq.eq g.F.Remap.remapped g.F.Remap.merged in
    let held = c.hold_in_place-held.result in
    subst (λ (h : HomeView). IsInSlot same after_is (place_of h held.class) c.value.result.now)
    c.hold_in_place-held.ensures.home
    (lies_taken same after_is held.inner.seat.me.1 c.value.result.now (place_of held.home.now held.class)
    c.hold_in_place-held.ensures.lies c.value.ensures.value)

pub release-requires : goal.release-requires
release-requires g c =
    let held = c.hold_in_place-held.result in
    subst
    (λ (h : HomeView). IsInSlot g.K.PartialEq.eq (after g.V.PartialEq.eq g.F.Remap.remapped g.F.Remap.merged)
    (place_of h held.class) c.make_in_place-made.new.bin_slot)
    (sym c.hold_in_place-held.ensures.home) c.make_in_place-made.ensures.lies
