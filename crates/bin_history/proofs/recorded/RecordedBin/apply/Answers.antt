use Rattle.std.proofs.Common.{◌∙◌, ap}
use Rattle.bin_history.specs.Calls.{after}
use Rattle.bin_history.proofs.Keys.{key_tells}
use Rattle.bin_history.proofs.Histories.{GoesOn-called}
use Rattle.bin_history.proofs.Lawful.{IsReplayed-applied}
use Rattle.bin_history.proofs.recorded.RecordedBin.apply.Goals as goal

pub invariant_of-self : goal.invariant_of-self
invariant_of-self g c =
    let tells = key_tells g.met.K.Eq.laws g.met.K.HashKey.equal_is_same in
    let w = rw (← c.self.view_is, ← c.ready.view_is) at c.requires.prepared in
    let records = rw w.kept at c.add.ensures.records in
    rw (c.add.ensures.base, records, c.carry_out-taken.ensures.items ∙ w.worked_out.change_is)
    (IsReplayed-applied g.K.PartialEq.eq tells _ _ _ _ _ _ _ _
    c.self.invariant w.of_class w.worked_out.before_is w.worked_out.after_is w.room.few)

pub returns-clause-history : goal.returns-clause-history
returns-clause-history g c =
    let tells = key_tells g.met.K.Eq.laws g.met.K.HashKey.equal_is_same in
    let w = rw (← c.self.view_is, ← c.ready.view_is) at c.requires.prepared in
    let records = rw w.kept at c.add.ensures.records in
    rw (← c.self.view_is, ← c.ready.view_is)
    (GoesOn-called g.K.PartialEq.eq tells g.K.HashKey.code
    (after g.V.PartialEq.eq g.F.Remap.remapped g.F.Remap.merged) _ _ _ c.add.ensures.base records)
