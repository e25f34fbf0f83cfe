use denote.Param.Send.{sendable}
use Rattle.std.proofs.Crossing.{crosses}
use Rattle.std.proofs.sync.atomic.AtomicU64.TheSendSync as atomic
use Rattle.clients.proofs.Crossing.{shared_sync}
use Rattle.test_live.proofs.growing.find_by_one.Goals as goal

pub live_reduce-requires-sync-G : goal.live_reduce-requires-sync-G
live_reduce-requires-sync-G g c =
    let r = c.type_bounds.sync-R in
    search (sendable, crosses, atomic.the_sync, shared_sync) depth 60 fits 60000

pub live_search-requires-sync-G : goal.live_search-requires-sync-G
live_search-requires-sync-G g c =
    let r = c.type_bounds.sync-R in
    search (sendable, crosses, atomic.the_sync, shared_sync) depth 60 fits 60000
