use Rattle.std.proofs.Common.{◌∙◌}
use Rattle.bin_history.specs.Calls.{after}
use Rattle.bin_layout.proofs.Openings.{if_ok_then}
use Rattle.bin_layout.specs.Views.{place_of}
use Rattle.lean_bins.proofs.Halves.{lies_taken}
use Rattle.bin_store.proofs.Glances.{IsGlanced-bin_slot}
use Rattle.bin_store.proofs.glance.glance_lean.Goals as goal

pub returns-clause-glanced : goal.returns-clause-glanced
returns-clause-glanced g c =
    let same = g.K.PartialEq.eq in
    let after_is = after g.V.PartialEq.eq g.F.Remap.remapped g.F.Remap.merged in
    let held = c.hold_in_place-place.result in
    let place = place_of held.home.now held.class in
    let x = c.value-bin_slot.result.now in
    if_ok_then c.copy_of_option-value.result
    (λ value is. IsGlanced-bin_slot same g.K.HashKey.code after_is c.args.home.now c.args.hash (g.Q.AsKey.stands_for c.args.query) value place x
    (lies_taken same after_is held.inner.seat.me.1 x place c.hold_in_place-place.ensures.lies
    c.value-bin_slot.ensures.value)
    c.hold_in_place-place.ensures.of_map c.lawful_entries.ensures c.hold_in_place-place.ensures.covers (is ∙ c.get_as.ensures))
    c.copy_of_option-value.ensures.copy
