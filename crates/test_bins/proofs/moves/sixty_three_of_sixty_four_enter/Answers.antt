use denote.Param.Send.{sendable}
use Rattle.std.proofs.Crossing.{crosses}
use Rattle.transfer.proofs.Shared.{strides_sync}
use Rattle.test_bins.proofs.moves.sixty_three_of_sixty_four_enter.Goals as goal

pub moved_by_threads-found-requires-sync-M : goal.moved_by_threads-found-requires-sync-M
moved_by_threads-found-requires-sync-M g c κs = search (sendable, crosses, strides_sync) depth 40
