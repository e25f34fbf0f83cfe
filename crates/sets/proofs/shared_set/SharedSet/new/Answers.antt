use Rattle.std.proofs.Common.{refl}
use Rattle.chm.proofs.Limits.{IsLimited-ok, IsLimited-same}
use Rattle.sets.proofs.shared_set.SharedSet.new.Goals as goal

pub returns-in-Ok-clause-limits : goal.returns-in-Ok-clause-limits
returns-in-Ok-clause-limits g c =
    let (room, clients) = c.in-Ok.ensures.limits.ok refl in
    IsLimited-ok _ _ _ _ room clients

pub returns-in-Err-clause-limits : goal.returns-in-Err-clause-limits
returns-in-Err-clause-limits g c = IsLimited-same _ _ _ c.in-Err.fault c.in-Err.ensures.limits
