use Rattle.std.proofs.Common.{refl}
use Rattle.bin_history.proofs.Keys.{key_tells}
use Rattle.bin_history.proofs.Lawful.{IsReplayed-part}
use Rattle.bin_history.proofs.recorded.RecordedBin.part.Goals as goal

pub invariant_of-result : goal.invariant_of-result
invariant_of-result g c =
    let tells = key_tells g.met.K.Eq.laws g.met.K.HashKey.equal_is_same in
    rw (c.in_ok-entries.ensures.part, c.deref.ensures.value, c.in_ok-log.ensures.base, c.in_ok-log.ensures.records)
    (IsReplayed-part g.K.PartialEq.eq tells _ _ _ _ c.args.half _ _ _ c.self.invariant)

pub returns-clause-part : goal.returns-clause-part
returns-clause-part g c =
    let entries = rw c.deref.ensures.value at c.in_ok-entries.ensures.part in
    rw (← c.self.view_is) (record {
      form = refl;
      salt = refl;
      base = c.in_ok-log.ensures.base;
      records = c.in_ok-log.ensures.records;
      entries = entries;
    })
