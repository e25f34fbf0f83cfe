-- Shared maps and their clients may go to other threads.
use denote.RattleType.{RattleType}
use denote.Struct.Declared.{shape}
use denote.Param.Send.{IsSend, IsSync, Frees, AllSend, AllSync, part_keyless, sendable}
use Rattle.std.proofs.CrossingOver.{crosses}
use Rattle.std.proofs.Crossing as wide
use Rattle.std.specs.declared.alloc.Allocator as Allocator
use Rattle.std.specs.declared.clone.Clone as Clone
use Rattle.std.specs.declared.cmp.Eq as Eq
use Rattle.std.specs.declared.cmp.PartialEq as PartialEq
use Rattle.std.proofs.sync.atomic.AtomicU64.TheSendSync as atomic
use Rattle.atomic_table.specs.contracts.badge.Badge as badge
use Rattle.atomic_table.proofs.badge.Badge.TheSendSync as the_badge
use Rattle.atomic_table.specs.contracts.shared.Seat as seat
use Rattle.atomic_table.proofs.shared.Seat.TheSendSync as the_seat
use Rattle.atomic_table.proofs.shared.Shared.TheSendSync as the_words
use Rattle.atomic_table.proofs.send_lease.SendLease.TheSendSync as the_lease
use Rattle.boxcar.proofs.slot.OnceSlot.TheSendSync as once
use Rattle.counted_slot.proofs.Counted.TheSendSync as counted
use Rattle.hashkeys.specs.declared.exact.Exact as Exact
use Rattle.hashkeys.specs.declared.hashing.HashKey as HashKey
use Rattle.bin_history.specs.declared.call.Remap as Remap
use Rattle.bin_history.specs.declared.call.Value as Value
use Rattle.count_ledger.specs.contracts.ledger.Ledger as Ledger
use Rattle.count_ledger.specs.contracts.ledger.Ledger.TheInside as LedgerInside
use Rattle.count_ledger.specs.contracts.roster.Roster as Roster
use Rattle.count_ledger.specs.contracts.tokens.Pass as Pass
use Rattle.bin_store.proofs.Shared as bin_store
use Rattle.chm.specs.contracts.map.Map as Map
use Rattle.chm.specs.contracts.map.Map.TheInside as MapInside
use Rattle.chm.proofs.Shared.{map_sync, turns_send}
use Rattle.clients.specs.declared.slot.Waits as Waits
use Rattle.clients.specs.contracts.slot.Waiting as Waiting
use Rattle.clients.specs.contracts.slot.Slot as Slot
use Rattle.clients.specs.contracts.pass_slot.PassSlot as PassSlot
use Rattle.clients.specs.contracts.pass_slot.Row as Row
use Rattle.clients.specs.contracts.pass_pool.PassPool as PassPool
use Rattle.clients.specs.contracts.pass_pool.PassPool.TheInside as PassPoolInside
use Rattle.clients.specs.declared.holder.Holder as Holder
use Rattle.clients.specs.declared.holder.Seat as Seat
use Rattle.clients.specs.contracts.client.ClientOf as ClientOf
use Rattle.clients.specs.contracts.client.ClientOf.TheInside as ClientInside
use Rattle.clients.specs.contracts.owned.Owned as Owned
use Rattle.clients.specs.contracts.owned.OwnedPass as OwnedPass
use Rattle.clients.specs.contracts.parked.Parked as Parked
use Rattle.clients.specs.contracts.parked.Parked.TheInside as ParkedInside
use Rattle.clients.specs.contracts.shared.SharedMap as SharedMap
use Rattle.clients.specs.contracts.shared.SharedMap.TheInside as SharedInside
use Rattle.clients.specs.contracts.unshared.Unshared as Unshared
use Rattle.clients.specs.contracts.unshared.Unshared.TheInside as UnsharedInside

seat_sync : (S V : RattleType) → IsSend S → IsSync (seat.the_row S V)
seat_sync S V s = record { shared = λ d b o κ q. part_keyless (seat.the_row S V) (the_seat.the_send S V s) q d b o }

badge_sync : (V : RattleType) → IsSync (badge.the_row V)
badge_sync V = record { shared = λ d b o κ q. part_keyless (badge.the_row V) (the_badge.the_send V) q d b o }

module _ (X : RattleType) (waits : Waits.Ghosts X.Denot) (s : IsSend X) (y : IsSync X) where
  waiting_send : IsSend (Waiting.the_row X)
  waiting_send = search (sendable, crosses) depth 30

  waiting_sync : IsSync (Waiting.the_row X)
  waiting_sync = search (sendable, crosses) depth 30

  slot_send : IsSend (Slot.the_row X waits)
  slot_send = search (sendable, counted.the_send, waiting_send) depth 30

  slot_sync : IsSync (Slot.the_row X waits)
  slot_sync = search (sendable, counted.the_sync, waiting_send, waiting_sync) depth 30

module _ (K V F : RattleType) where
  pub pass_send : IsSend (Pass.the_row K V F)
  pass_send = search (sendable, the_seat.the_send) depth 30

  pub pass_sync : IsSync (Pass.the_row K V F)
  pass_sync = search (sendable, seat_sync) depth 30

  pub roster_send : IsSend (Roster.the_row K V F)
  roster_send = search (sendable, the_badge.the_send) depth 30

  pub roster_sync : IsSync (Roster.the_row K V F)
  roster_sync = search (sendable, badge_sync) depth 30

  pass_slot_send : IsSend (PassSlot.the_row K V F)
  pass_slot_send = search (sendable, slot_send, pass_send, pass_sync, atomic.the_send) depth 30

  pass_slot_sync : IsSync (PassSlot.the_row K V F)
  pass_slot_sync = search (sendable, slot_sync, pass_send, pass_sync, atomic.the_sync) depth 30

module _ (K V F A : RattleType) (hash : HashKey.Ghosts K.Denot) (key_eq : Eq.Ghosts K.Denot)
    (key_same : PartialEq.Ghosts K.Denot)
    (key_exact : Exact.Ghosts K.Denot) (key_clone : Clone.Ghosts K.Denot)
    (value : Value.Ghosts V.Denot) (value_exact : Exact.Ghosts V.Denot) (value_clone : Clone.Ghosts V.Denot)
    (value_eq : Eq.Ghosts V.Denot) (value_same : PartialEq.Ghosts V.Denot)
    (remap : Remap.Ghosts F.Denot K.Denot V.Denot)
    (function_exact : Exact.Ghosts F.Denot) (function_clone : Clone.Ghosts F.Denot)
    (alloc : Allocator.Ghosts A.Denot)
    (sk : IsSend K) (sv : IsSend V) (sf : IsSend F) (sa : IsSend A) (yk : IsSync K) (yv : IsSync V) (yf : IsSync F)
    (ya : IsSync A)
    (frees : Frees alloc alloc.dealloc_token) where
  ledger_fields : AllSend
      (shape (LedgerInside.the_type K V F A hash key_eq key_same key_exact key_clone value_eq value_same remap
      function_exact function_clone alloc)).fields
  ledger_fields = (
    search (sendable, the_words.the_send, the_lease.the_send) depth 20,
    (search sendable depth 20, (search sendable depth 20, (search sendable depth 20, tt))),
  )

  ledger_send : IsSend
      (Ledger.the_row K V F A hash key_eq key_same key_exact key_clone value_eq value_same remap
      function_exact function_clone alloc)
  ledger_send = search (sendable, ledger_fields) depth 20

  map_fields : AllSend
      (shape (MapInside.the_type K V F A hash key_eq key_same key_exact key_clone value value_exact value_clone value_eq value_same remap
      function_exact function_clone alloc)).fields
  map_fields = (
    ledger_send,
    (
      bin_store.map_send K V F A hash key_eq key_same key_exact key_clone value value_exact value_clone value_eq value_same
          remap function_exact function_clone alloc sk sv sf sa yk yv yf ya frees,
      (
        search (sendable, crosses, wide.crosses, once.the_send, turns_send) depth 30,
        (search sendable depth 20, tt),
      ),
    ),
  )

  pub map_send : IsSend
      (Map.the_row K V F A hash key_eq key_same key_exact key_clone value value_exact value_clone value_eq value_same remap
      function_exact function_clone alloc)
  map_send = search (sendable, map_fields) depth 30

  row_send : IsSend (Row.the_row K V F A alloc)
  row_send = search (sendable, crosses, once.the_send, pass_slot_send) depth 30

  row_sync : IsSync (Row.the_row K V F A alloc)
  row_sync = search (sendable, crosses, once.the_sync, pass_slot_send, pass_slot_sync) depth 30

  desk_fields_send : AllSend
      (shape (PassPoolInside.the_type K V F A hash key_eq key_same key_exact key_clone value value_exact value_clone value_eq value_same remap
      function_exact function_clone alloc)).fields
  desk_fields_send = (
    map_send,
    (
      search (sendable, slot_send, roster_send, roster_sync) depth 30,
      (
        search (sendable, crosses, row_send) depth 30,
        (search (sendable, atomic.the_send) depth 20, (search (sendable, atomic.the_send) depth 20, tt)),
      ),
    ),
  )

  desk_fields_sync : AllSync
      (shape (PassPoolInside.the_type K V F A hash key_eq key_same key_exact key_clone value value_exact value_clone value_eq value_same remap
      function_exact function_clone alloc)).fields
  desk_fields_sync = (
    map_sync K V F A hash key_eq key_same key_exact key_clone value value_exact value_clone value_eq value_same
        remap function_exact function_clone alloc sk sv sf sa yk yv yf ya frees,
    (
      search (sendable, slot_sync, roster_send, roster_sync) depth 30,
      (
        search (sendable, crosses, row_sync) depth 30,
        (search (sendable, atomic.the_sync) depth 20, (search (sendable, atomic.the_sync) depth 20, tt)),
      ),
    ),
  )

  pub desk_send : IsSend
      (PassPool.the_row K V F A hash key_eq key_same key_exact key_clone value value_exact value_clone value_eq value_same remap
      function_exact function_clone alloc)
  desk_send = search (sendable, desk_fields_send) depth 30

  pub desk_sync : IsSync
      (PassPool.the_row K V F A hash key_eq key_same key_exact key_clone value value_exact value_clone value_eq value_same remap
      function_exact function_clone alloc)
  desk_sync = search (sendable, desk_fields_sync) depth 30

  own_send : IsSend
      (Owned.the_field K V F A hash key_eq key_same key_exact key_clone value value_exact value_clone value_eq value_same remap
      function_exact function_clone alloc).row
  own_send = search (sendable, crosses, desk_send, desk_sync) depth 30

  owned_pass_send : IsSend (OwnedPass.the_field K V F).row
  owned_pass_send = search (sendable, pass_send) depth 30

  parked_fields : AllSend
      (shape (ParkedInside.the_type K V F A hash key_eq key_same key_exact key_clone value value_exact value_clone value_eq value_same remap
      function_exact function_clone alloc)).fields
  parked_fields = (own_send, (owned_pass_send, tt))

  -- a client on its way into a thread
  pub parked_send : IsSend
      (Parked.the_row K V F A hash key_eq key_same key_exact key_clone value value_exact value_clone value_eq value_same remap
      function_exact function_clone alloc)
  parked_send = search (sendable, parked_fields) depth 30

  shared_fields : AllSend
      (shape (SharedInside.the_type K V F A hash key_eq key_same key_exact key_clone value value_exact value_clone value_eq value_same remap
      function_exact function_clone alloc)).fields
  shared_fields = (search (sendable, crosses, desk_send, desk_sync) depth 30, tt)

  pub shared_send : IsSend
      (SharedMap.the_row K V F A hash key_eq key_same key_exact key_clone value value_exact value_clone value_eq value_same remap
      function_exact function_clone alloc)
  shared_send = search (sendable, shared_fields) depth 30

  shared_fields_sync : AllSync
      (shape (SharedInside.the_type K V F A hash key_eq key_same key_exact key_clone value value_exact value_clone value_eq value_same remap
      function_exact function_clone alloc)).fields
  shared_fields_sync = (search (sendable, crosses, desk_send, desk_sync) depth 30, tt)

  -- a map that threads borrow
  pub shared_sync : IsSync
      (SharedMap.the_row K V F A hash key_eq key_same key_exact key_clone value value_exact value_clone value_eq value_same remap
      function_exact function_clone alloc)
  shared_sync = search (sendable, shared_fields_sync) depth 30

  unshared_fields : AllSend
      (shape (UnsharedInside.the_type K V F A hash key_eq key_same key_exact key_clone value value_exact value_clone value_eq value_same remap
      function_exact function_clone alloc)).fields
  unshared_fields = (
    map_send,
    (search (sendable, crosses, pass_send) depth 30, (roster_send K V F, tt)),
  )

  pub unshared_send : IsSend
      (Unshared.the_row K V F A hash key_eq key_same key_exact key_clone value value_exact value_clone value_eq value_same remap
      function_exact function_clone alloc)
  unshared_send = search (sendable, unshared_fields) depth 30

module _ (H K V F A S : RattleType) (holder : Holder.Ghosts H.Denot K.Denot V.Denot F.Denot A.Denot S.Denot)
    (seat : Seat.Ghosts S.Denot K.Denot V.Denot F.Denot)
    (hash : HashKey.Ghosts K.Denot) (key_same : PartialEq.Ghosts K.Denot) (key_clone : Clone.Ghosts K.Denot)
    (value_clone : Clone.Ghosts V.Denot) (value_same : PartialEq.Ghosts V.Denot)
    (remap : Remap.Ghosts F.Denot K.Denot V.Denot) (function_clone : Clone.Ghosts F.Denot)
    (alloc : Allocator.Ghosts A.Denot)
    (sh : IsSend H) (ss : IsSend S) (sk : IsSend K) (sv : IsSend V) (sf : IsSend F) (sa : IsSend A) where
  client_fields : AllSend
      (shape (ClientInside.the_type H K V F A S holder seat hash key_same key_clone value_clone value_same remap
      function_clone alloc)).fields
  client_fields = (sh, (ss, (search (sendable, crosses) depth 30, tt)))

  -- a client that holds what may go
  pub client_send : IsSend
      (ClientOf.the_row H K V F A S holder seat hash key_same key_clone value_clone value_same remap function_clone alloc)
  client_send = search (sendable, client_fields) depth 30

-- a client that owns its pass, by what it holds
pub ruleset owned_send = (client_send, desk_send, desk_sync, pass_send)
