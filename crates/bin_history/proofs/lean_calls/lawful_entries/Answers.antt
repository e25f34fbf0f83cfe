use Rattle.std.proofs.Common.{refl}
use Rattle.bin_history.specs.Calls.{after}
use Rattle.bin_history.proofs.Keys.{key_tells}
use Rattle.bin_history.proofs.Lawful.{IsLawful-from_replayed, IsReplayed-lean}
use Rattle.bin_history.proofs.lean_calls.lawful_entries.Goals as goal

pub returns : goal.returns
returns g c =
    let tells = key_tells g.met.K.Eq.laws g.met.K.HashKey.equal_is_same in
    let rules = after g.V.PartialEq.eq g.F.Remap.remapped g.F.Remap.merged in
    let of = c.lawful.ensures in
    IsLawful-from_replayed g.K.PartialEq.eq tells g.K.HashKey.code rules _
    (IsReplayed-lean g.K.PartialEq.eq tells g.K.HashKey.code rules _ _ _ of.distinct of.of_class) (λ _. (refl, refl))
