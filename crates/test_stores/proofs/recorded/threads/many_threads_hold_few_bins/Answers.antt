use denote.Param.Send.{sendable}
use Rattle.std.proofs.Common.{refl, arith}
use Rattle.std.proofs.Crossing.{crosses}
use Rattle.generations.proofs.Shared.{map_sync}
use Rattle.test_stores.proofs.recorded.threads.many_threads_hold_few_bins.Goals as goal

pub quiet-map-requires : goal.quiet-map-requires
quiet-map-requires g c = (2, omega arith, refl)

pub map_indices-done-requires-sync-F : goal.map_indices-done-requires-sync-F
map_indices-done-requires-sync-F g c κs within = search (sendable, crosses, map_sync) depth 40
