use Rattle.std.proofs.Common.{sym, ◌∙◌}
use Rattle.bin_history.specs.Calls.{after}
use Rattle.bin_layout.specs.Views.{place_of}
use Rattle.lean_bins.proofs.Halves.{lies_taken, salt_of_lying, class_of_lying, role_of_class, at_taken}
use Rattle.lean_bins.proofs.hold.BinGuard.take_out.Goals as goal

pub into_bin-bin-requires-clause-salt : goal.into_bin-bin-requires-clause-salt
into_bin-bin-requires-clause-salt g c =
    let same = g.K.PartialEq.eq in
    let after_is = after g.V.PartialEq.eq g.F.Remap.remapped g.F.Remap.merged in
    let place = place_of c.args.self.home.now c.args.self.class in
    let x = c.replace-bin_slot.result in
    let there = lies_taken same after_is c.args.self.inner.seat.me.1 x place c.requires c.replace-bin_slot.ensures.found in
    c.salt-salt.ensures ∙ sym (salt_of_lying same after_is place x there)

pub into_bin-bin-requires-clause-class : goal.into_bin-bin-requires-clause-class
into_bin-bin-requires-clause-class g c =
    let same = g.K.PartialEq.eq in
    let after_is = after g.V.PartialEq.eq g.F.Remap.remapped g.F.Remap.merged in
    let place = place_of c.args.self.home.now c.args.self.class in
    let x = c.replace-bin_slot.result in
    let there = lies_taken same after_is c.args.self.inner.seat.me.1 x place c.requires c.replace-bin_slot.ensures.found in
    sym (class_of_lying same after_is place x there)

pub into_bin-bin-requires-clause-role : goal.into_bin-bin-requires-clause-role
into_bin-bin-requires-clause-role g c =
    let same = g.K.PartialEq.eq in
    let after_is = after g.V.PartialEq.eq g.F.Remap.remapped g.F.Remap.merged in
    let place = place_of c.args.self.home.now c.args.self.class in
    let x = c.replace-bin_slot.result in
    let there = lies_taken same after_is c.args.self.inner.seat.me.1 x place c.requires c.replace-bin_slot.ensures.found in
    role_of_class same after_is place x there

pub returns-clause-at : goal.returns-clause-at
returns-clause-at g c =
    let same = g.K.PartialEq.eq in
    let after_is = after g.V.PartialEq.eq g.F.Remap.remapped g.F.Remap.merged in
    let place = place_of c.args.self.home.now c.args.self.class in
    let x = c.replace-bin_slot.result in
    let there = lies_taken same after_is c.args.self.inner.seat.me.1 x place c.requires c.replace-bin_slot.ensures.found in
    at_taken same after_is place x there c.into_bin-bin.result.0 c.into_bin-bin.result.1 c.into_bin-bin.ensures.bin
    c.into_bin-bin.ensures.role
