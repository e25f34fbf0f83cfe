use denote.Param.Send.{sendable}
use Rattle.std.proofs.Crossing.{crosses}
use Rattle.chm.proofs.Shared.{map_sync}
use Rattle.test_copies.proofs.steps.take_all.Goals as goal

pub for_each_mut-requires-sync-F : goal.for_each_mut-requires-sync-F
for_each_mut-requires-sync-F g c κs within =
    let sk = c.type_bounds.send-K in let sv = c.type_bounds.send-V in let sf = c.type_bounds.send-F in
    let yk = c.type_bounds.sync-K in let yv = c.type_bounds.sync-V in let yf = c.type_bounds.sync-F in
    let yr = c.type_bounds.sync-R in let ys = c.type_bounds.sync-S in
    search (sendable, crosses, map_sync) depth 40 fits 20000
