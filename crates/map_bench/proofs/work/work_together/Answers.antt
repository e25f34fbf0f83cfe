use denote.Param.Send.{sendable}
use Rattle.std.proofs.Crossing.{crosses}
use Rattle.map_bench.proofs.Shared.{bench_map_sync, run_sync}
use Rattle.map_bench.proofs.work.work_together.Goals as goal

pub for_each_mut-requires-sync-F : goal.for_each_mut-requires-sync-F
for_each_mut-requires-sync-F g c κs within =
    let r = c.type_bounds.sync-R in
    search (sendable, crosses, bench_map_sync, run_sync) depth 40 fits 20000
