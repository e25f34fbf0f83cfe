use Rattle.std.proofs.Common.{refl}
use Rattle.facing_maps.proofs.stage.Stage.close_unshared.Goals as goal

pub returns-in-Ok : goal.returns-in-Ok
returns-in-Ok g c = rw c.new.ensures (refl, c.in-Ok.ensures.ledger, c.in-Ok.ensures.n, c.one_order.ensures.0, c.one_order.ensures.1)
