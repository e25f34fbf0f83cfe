use denote.Param.Send.{sendable}
use Rattle.std.proofs.Common.{refl, arith}
use Rattle.std.proofs.Crossing.{crosses}
use Rattle.atomic_table.proofs.send_lease.SendLease.TheSendSync as the_lease
use Rattle.atomic_table.proofs.shared.Shared.TheSendSync as the_words
use Rattle.lean_bins.proofs.Shared.{map_sync}
use Rattle.test_stores.proofs.lean.threads.two_threads_forward_one_class_once.Goals as goal

pub quiet-map-requires : goal.quiet-map-requires
quiet-map-requires g c = (4, omega arith, refl)

pub join-one-requires-send-F : goal.join-one-requires-send-F
join-one-requires-send-F g c κs within = search (sendable, crosses, the_words.the_sync, the_lease.the_sync, map_sync)
    depth 40 fits 20000

pub new-requires : goal.new-requires
new-requires g c = ((5, omega arith, refl), omega arith)
