use denote.Param.Send.{sendable}
use Rattle.std.proofs.Crossing.{crosses}
use Rattle.std.proofs.sync.atomic.AtomicU64.TheSendSync as atomic
use Rattle.clients.proofs.Crossing.{shared_sync}
use Rattle.test_live.proofs.growing.list_growing.Goals as goal

pub listed-listed-requires-sync-G : goal.listed-listed-requires-sync-G
listed-listed-requires-sync-G g c =
    let r = c.type_bounds.sync-R in
    search (sendable, crosses, atomic.the_sync, shared_sync) depth 60 fits 60000
