use Rattle.std.proofs.Common.{refl}
use Rattle.chm.proofs.Limits.{IsLimited-ok}
use Rattle.text_maps.proofs.seeded_map.SeededMap.with_seed.Goals as goal

pub returns-in-Ok-clause-limits : goal.returns-in-Ok-clause-limits
returns-in-Ok-clause-limits g c =
    let (room, clients) = c.in-Ok.ensures.limits.ok refl in
    IsLimited-ok _ _ _ _ room clients
