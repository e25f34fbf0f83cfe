use denote.Param.Send.{sendable}
use Rattle.std.proofs.Crossing.{crosses}
use Rattle.transfer.proofs.Shared.{shared_sync}
use Rattle.test_bins.proofs.turns.eight_clients_move_65536_bins_in_turns.Goals as goal

pub moved_by_threads-found-requires-sync-M : goal.moved_by_threads-found-requires-sync-M
moved_by_threads-found-requires-sync-M g c κs = search (sendable, crosses, shared_sync) depth 40
