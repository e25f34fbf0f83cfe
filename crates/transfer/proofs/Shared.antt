-- Threads may share the strides of a move, and its movers may go from thread to thread.
use denote.RattleType.{RattleType}
use denote.Struct.Declared.{shape}
use denote.Param.Send.{IsSend, IsSync, Frees, AllSend, AllSync, part_keyless, sendable}
use Rattle.std.proofs.CrossingOver.{crosses}
use Rattle.std.specs.declared.alloc.Allocator.{Ghosts}
use Rattle.atomic_table.specs.contracts.shared.Seat as seat
use Rattle.atomic_table.proofs.shared.Seat.TheSendSync as the_seat
use Rattle.atomic_table.proofs.shared.Shared.TheSendSync as the_words
use Rattle.atomic_table.proofs.send_lease.SendLease.TheSendSync as the_lease
use Rattle.counted_slot.proofs.Counted.TheSendSync as the_place
use Rattle.transfer.specs.contracts.mover.Mover as mover
use Rattle.transfer.specs.contracts.again.Resting as resting
use Rattle.transfer.specs.contracts.again.SharedStrides as shared
use Rattle.transfer.specs.contracts.again.SharedStrides.TheInside as shared_inside
use Rattle.transfer.specs.contracts.strides.Strides as strides
use Rattle.transfer.specs.contracts.strides.Strides.TheInside as inside

seat_sync : (S V : RattleType) → IsSend S → IsSync (seat.the_row S V)
seat_sync S V s = record { shared = λ d b o κ q. part_keyless (seat.the_row S V) (the_seat.the_send S V s) q d b o }

pub mover_send : IsSend mover.the_row
mover_send = search (sendable, the_seat.the_send) depth 20

pub mover_sync : IsSync mover.the_row
mover_sync = search (sendable, seat_sync) depth 20

resting_send : IsSend resting.the_row
resting_send = search (sendable, mover_send) depth 20

resting_sync : IsSync resting.the_row
resting_sync = search (sendable, mover_sync) depth 20

-- over any allocator that threads may share, and whose blocks any of them may give back
module _ (A : RattleType) (g : Ghosts A.Denot) (s : IsSend A) (y : IsSync A) (f : Frees g g.dealloc_token) where
  fields_send : AllSend (shape (inside.the_type A g)).fields
  fields_send = (
    search (sendable, the_words.the_send, the_lease.the_send) depth 20,
    (search sendable, (search (sendable, crosses, the_place.the_send, mover_send) depth 20, tt)),
  )

  fields_sync : AllSync (shape (inside.the_type A g)).fields
  fields_sync = (
    search (sendable, the_words.the_sync, the_lease.the_sync) depth 20,
    (search sendable, (search (sendable, crosses, the_place.the_sync, mover_send, mover_sync) depth 20, tt)),
  )

  pub strides_send : IsSend (strides.the_row A g)
  strides_send = search (sendable, fields_send) depth 20

  pub strides_sync : IsSync (strides.the_row A g)
  strides_sync = search (sendable, fields_sync) depth 20

  shared_fields_send : AllSend (shape (shared_inside.the_type A g)).fields
  shared_fields_send = (strides_send, (search (sendable, crosses, the_place.the_send, resting_send) depth 20, tt))

  shared_fields_sync : AllSync (shape (shared_inside.the_type A g)).fields
  shared_fields_sync =
      (strides_sync, (search (sendable, crosses, the_place.the_sync, resting_send, resting_sync) depth 20, tt))

  pub shared_send : IsSend (shared.the_row A g)
  shared_send = search (sendable, shared_fields_send) depth 20

  pub shared_sync : IsSync (shared.the_row A g)
  shared_sync = search (sendable, shared_fields_sync) depth 20
