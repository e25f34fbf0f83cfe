use Rattle.std.proofs.Common.{rules, refl}
use Rattle.chm.proofs.Limits.{IsLimited-refused, IsLimited-same}
use Rattle.chm.proofs.map.Map.with_passes.Goals as goal

pub returns-in-Err-clause-limits : goal.returns-in-Err-clause-limits
returns-in-Err-clause-limits g c = IsLimited-same _ _ _ c.in-Err.fault c.in-Err.ensures.limits

pub returns-in_err-with_all-in-Ok-clause-limits : goal.returns-in_err-with_all-in-Ok-clause-limits
returns-in_err-with_all-in-Ok-clause-limits g c =
    let within = c.in-Ok.ensures.limits.ok refl in
    IsLimited-refused _ _ _ _ (search rules) within.0 within.1
