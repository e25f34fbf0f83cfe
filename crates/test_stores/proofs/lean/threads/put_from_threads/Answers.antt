use denote.Param.Send.{sendable}
use Rattle.std.proofs.Crossing.{crosses}
use Rattle.atomic_table.proofs.send_lease.SendLease.TheSendSync as the_lease
use Rattle.atomic_table.proofs.shared.Shared.TheSendSync as the_words
use Rattle.lean_bins.proofs.Shared.{map_sync}
use Rattle.test_stores.proofs.lean.threads.put_from_threads.Goals as goal

pub for_each_mut-requires-sync-F : goal.for_each_mut-requires-sync-F
for_each_mut-requires-sync-F g c κs within =
    let r = c.type_bounds.sync-R in
    search (sendable, crosses, the_words.the_sync, the_lease.the_sync, map_sync) depth 40 fits 20000
