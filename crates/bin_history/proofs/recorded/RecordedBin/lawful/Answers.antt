use Rattle.std.proofs.Common.{refl}
use Rattle.bin_history.proofs.Keys.{key_tells}
use Rattle.bin_history.proofs.Lawful.{IsLawful-from_replayed, recorded_is_not_lean}
use Rattle.bin_history.proofs.recorded.RecordedBin.lawful.Goals as goal

pub returns : goal.returns
returns g c =
    let tells = key_tells g.met.K.Eq.laws g.met.K.HashKey.equal_is_same in
    rw (← c.self.view_is) (record {
      lawful = IsLawful-from_replayed g.K.PartialEq.eq tells _ _ _ c.self.invariant
          (λ lean. absurd (recorded_is_not_lean lean));
      replayed = c.self.invariant.replayed;
      form = refl;
    })
