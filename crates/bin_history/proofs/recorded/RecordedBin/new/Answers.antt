use Rattle.std.proofs.Common.{◌∙◌, refl}
use Rattle.bin_history.proofs.Keys.{key_tells}
use Rattle.bin_history.proofs.Lawful.{IsReplayed-new}
use Rattle.bin_history.proofs.recorded.RecordedBin.new.Goals as goal

pub invariant_of-result : goal.invariant_of-result
invariant_of-result g c =
    let tells = key_tells g.met.K.Eq.laws g.met.K.HashKey.equal_is_same in
    rw (c.new-log.ensures.base, c.new-log.ensures.records)
    (IsReplayed-new g.K.PartialEq.eq tells _ _ _ _ _ _ _ c.requires.distinct c.requires.of_class refl
    (c.in_ok-entries.ensures.copy ∙ c.deref.ensures.value))
