use Rattle.std.proofs.Common.{refl}
use Rattle.chm.proofs.map.fn.Map.update_as.showing.Goals as goal

pub returns-in-Set : goal.returns-in-Set
returns-in-Set g c =
    (c.f-change.result.0, (c.as_ref.result, c.as_ref.ensures.value, c.f-change.ensures), rw c.in-Set.is refl)
