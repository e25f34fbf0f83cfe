-- Threads may share a map.
use denote.RattleType.{RattleType}
use denote.Struct.Declared.{shape}
use denote.Param.Send.{IsSend, IsSync, Frees, AllSend, AllSync, sendable}
use Rattle.std.proofs.CrossingOver.{crosses}
use Rattle.std.proofs.sync.atomic.AtomicIn.TheSendSync as ruled
use Rattle.std.specs.declared.alloc.Allocator as Allocator
use Rattle.std.specs.declared.clone.Clone as Clone
use Rattle.std.specs.declared.cmp.Eq as Eq
use Rattle.std.specs.declared.cmp.PartialEq as PartialEq
use Rattle.atomic_table.proofs.shared.Shared.TheSendSync as the_words
use Rattle.atomic_table.proofs.send_lease.SendLease.TheSendSync as the_lease
use Rattle.boxcar.proofs.slot.OnceSlot.TheSendSync as once
use Rattle.hashkeys.specs.declared.exact.Exact as Exact
use Rattle.hashkeys.specs.declared.hashing.HashKey as HashKey
use Rattle.bin_history.specs.declared.call.Remap as Remap
use Rattle.bin_history.specs.declared.call.Value as Value
use Rattle.count_ledger.specs.contracts.ledger.Ledger as Ledger
use Rattle.count_ledger.specs.contracts.ledger.Ledger.TheInside as LedgerInside
use Rattle.bin_store.proofs.Shared as bin_store
use Rattle.transfer.proofs.Shared as transfer
use Rattle.chm.specs.contracts.map.Map as Map
use Rattle.chm.specs.contracts.map.Map.TheInside as MapInside
use Rattle.chm.specs.contracts.resize.move_strides.MoveStrides as MoveStrides
use Rattle.chm.specs.contracts.resize.move_strides.MoveStrides.TheInside as MoveStridesInside

-- the strides of a move, of either form
module _ (A : RattleType) (g : Allocator.Ghosts A.Denot) (s : IsSend A) (y : IsSync A) (f : Frees g g.dealloc_token) where
  turns_fields_send : AllSend (shape (MoveStridesInside.the_type A g)).fields
  turns_fields_send = (search (sendable, transfer.strides_send, transfer.shared_send) depth 20, tt)

  turns_fields_sync : AllSync (shape (MoveStridesInside.the_type A g)).fields
  turns_fields_sync = (search (sendable, transfer.strides_sync, transfer.shared_sync) depth 20, tt)

  pub turns_send : IsSend (MoveStrides.the_row A g)
  turns_send = search (sendable, turns_fields_send) depth 20

  pub turns_sync : IsSync (MoveStrides.the_row A g)
  turns_sync = search (sendable, turns_fields_sync) depth 20

module _ (K V F A : RattleType) (hash : HashKey.Ghosts K.Denot) (key_eq : Eq.Ghosts K.Denot)
    (key_same : PartialEq.Ghosts K.Denot)
    (key_exact : Exact.Ghosts K.Denot) (key_clone : Clone.Ghosts K.Denot) (value : Value.Ghosts V.Denot) (value_exact : Exact.Ghosts V.Denot)
    (value_clone : Clone.Ghosts V.Denot) (value_eq : Eq.Ghosts V.Denot)
    (value_same : PartialEq.Ghosts V.Denot)
    (remap : Remap.Ghosts F.Denot K.Denot V.Denot) (function_exact : Exact.Ghosts F.Denot) (function_clone : Clone.Ghosts F.Denot)
    (alloc : Allocator.Ghosts A.Denot)
    (sk : IsSend K) (sv : IsSend V) (sf : IsSend F) (sa : IsSend A) (yk : IsSync K) (yv : IsSync V) (yf : IsSync F)
    (ya : IsSync A)
    (frees : Frees alloc alloc.dealloc_token) where
  ledger_fields : AllSync (shape (LedgerInside.the_type K V F A hash key_eq key_same key_exact key_clone value_eq value_same remap
      function_exact function_clone alloc)).fields
  ledger_fields = (
    search (sendable, the_words.the_sync, the_lease.the_sync) depth 20,
    (search sendable depth 20, (search sendable depth 20, (search sendable depth 20, tt))),
  )

  ledger_sync : IsSync (Ledger.the_row K V F A hash key_eq key_same key_exact key_clone value_eq value_same remap function_exact function_clone alloc)
  ledger_sync = search (sendable, ledger_fields) depth 20

  fields : AllSync
      (shape (MapInside.the_type K V F A hash key_eq key_same key_exact key_clone value value_exact value_clone value_eq value_same remap
      function_exact
      function_clone alloc)).fields
  fields = (
    ledger_sync,
    (
      bin_store.map_sync K V F A hash key_eq key_same key_exact key_clone value value_exact value_clone value_eq value_same remap
          function_exact function_clone
          alloc sk sv sf sa yk yv yf ya frees,
      (
        search (sendable, crosses, ruled.the_sync, once.the_sync, turns_send, turns_sync) depth 30,
        (search sendable depth 20, tt),
      ),
    ),
  )

  pub map_sync : IsSync
      (Map.the_row K V F A hash key_eq key_same key_exact key_clone value value_exact value_clone value_eq value_same remap function_exact
      function_clone alloc)
  map_sync = search (sendable, fields) depth 30
