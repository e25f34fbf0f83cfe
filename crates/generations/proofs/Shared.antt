-- Threads may share the bins of a map.
use denote.RattleType.{RattleType}
use denote.Struct.Declared.{shape}
use denote.Param.Send.{IsSend, IsSync, Frees, AllSend, AllSync, part_keyless, sendable}
use Rattle.std.proofs.CrossingOver.{crosses}
use Rattle.std.proofs.sync.atomic.AtomicU64.TheSendSync as atomic
use Rattle.std.specs.declared.alloc.Allocator as Allocator
use Rattle.std.specs.declared.clone.Clone as Clone
use Rattle.std.specs.declared.cmp.Eq as Eq
use Rattle.std.specs.declared.cmp.PartialEq as PartialEq
use Rattle.atomic_table.specs.contracts.badge.Badge as badge
use Rattle.atomic_table.proofs.badge.Badge.TheSendSync as the_badge
use Rattle.boxcar.proofs.slot.OnceSlot.TheSendSync as slot
use Rattle.boxcar.proofs.tag.Tag.TheSendSync as tag
use Rattle.counted_slot.proofs.Counted.TheSendSync as counted
use Rattle.hashkeys.specs.declared.exact.Exact as Exact
use Rattle.hashkeys.specs.declared.hashing.HashKey as HashKey
use Rattle.bin_history.specs.declared.call.Remap as Remap
use Rattle.bin_history.specs.declared.call.Value as Value
use Rattle.bin_history.proofs.Shared.{bin_send, bin_sync}
use Rattle.count_ledger.specs.contracts.tokens.BinRole as Role
use Rattle.generations.specs.contracts.state.State as State
use Rattle.generations.specs.contracts.place.Place as Place
use Rattle.generations.specs.contracts.place.Place.TheInside as PlaceInside
use Rattle.generations.specs.contracts.generations.Generations as Gens
use Rattle.generations.specs.contracts.generations.Generations.TheInside as GensInside

badge_sync : (V : RattleType) → IsSync (badge.the_row V)
badge_sync V = record { shared = λ d b o κ q. part_keyless (badge.the_row V) (the_badge.the_send V) q d b o }

module _ (K V F A : RattleType) (hash : HashKey.Ghosts K.Denot) (key_eq : Eq.Ghosts K.Denot)
    (key_same : PartialEq.Ghosts K.Denot)
    (key_exact : Exact.Ghosts K.Denot) (key_clone : Clone.Ghosts K.Denot) (value : Value.Ghosts V.Denot) (value_exact : Exact.Ghosts V.Denot)
    (value_clone : Clone.Ghosts V.Denot) (value_eq : Eq.Ghosts V.Denot)
    (value_same : PartialEq.Ghosts V.Denot)
    (remap : Remap.Ghosts F.Denot K.Denot V.Denot) (function_exact : Exact.Ghosts F.Denot) (function_clone : Clone.Ghosts F.Denot)
    (alloc : Allocator.Ghosts A.Denot)
    (sk : IsSend K) (sv : IsSend V) (sf : IsSend F) (sa : IsSend A) (yk : IsSync K) (yv : IsSync V) (yf : IsSync F)
    (ya : IsSync A)
    (frees : Frees alloc alloc.dealloc_token) where
  pub role_send : IsSend (Role.the_row K V F)
  role_send = search (sendable, the_badge.the_send) depth 30

  pub role_sync : IsSync (Role.the_row K V F)
  role_sync = search (sendable, badge_sync) depth 30

  pub state_send : IsSend
      (State.the_row K V F A hash key_same key_clone value_clone value_same remap function_clone alloc)
  state_send = search (sendable, crosses, bin_send, role_send) depth 30

  pub state_sync : IsSync
      (State.the_row K V F A hash key_same key_clone value_clone value_same remap function_clone alloc)
  state_sync = search (sendable, crosses, bin_sync, role_sync) depth 30

  place_fields_send : AllSend
      (shape (PlaceInside.the_type K V F A hash key_eq key_same key_exact key_clone value value_exact value_clone value_eq value_same
      remap function_exact function_clone
      alloc)).fields
  place_fields_send = (search (sendable, counted.the_send, state_send) depth 20, tt)

  place_fields_sync : AllSync
      (shape (PlaceInside.the_type K V F A hash key_eq key_same key_exact key_clone value value_exact value_clone value_eq value_same
      remap function_exact function_clone
      alloc)).fields
  place_fields_sync = (search (sendable, counted.the_sync, state_send, state_sync) depth 20, tt)

  pub place_send : IsSend
      (Place.the_row K V F A hash key_eq key_same key_exact key_clone value value_exact value_clone value_eq value_same remap
      function_exact function_clone alloc)
  place_send = search (sendable, place_fields_send) depth 30

  pub place_sync : IsSync
      (Place.the_row K V F A hash key_eq key_same key_exact key_clone value value_exact value_clone value_eq value_same remap
      function_exact function_clone alloc)
  place_sync = search (sendable, place_fields_sync) depth 30

  map_fields_send : AllSend
      (shape (GensInside.the_type K V F A hash key_eq key_same key_exact key_clone value value_exact value_clone value_eq value_same
      remap function_exact function_clone
      alloc)).fields
  map_fields_send = (
    search (sendable, crosses, place_send) depth 20,
    (
      search (sendable, crosses, slot.the_send, place_send) depth 30,
      (
        search (sendable, atomic.the_send) depth 20,
        (search sendable depth 20, (search sendable depth 20, (search (sendable, tag.the_send) depth 20, tt))),
      ),
    ),
  )

  map_fields_sync : AllSync
      (shape (GensInside.the_type K V F A hash key_eq key_same key_exact key_clone value value_exact value_clone value_eq value_same
      remap function_exact function_clone
      alloc)).fields
  map_fields_sync = (
    search (sendable, crosses, place_sync) depth 20,
    (
      search
          (sendable, crosses, slot.the_sync, place_send, place_sync) depth 30,
      (
        search (sendable, atomic.the_sync) depth 20,
        (search sendable depth 20, (search sendable depth 20, (search (sendable, tag.the_sync) depth 20, tt))),
      ),
    ),
  )

  pub map_send : IsSend
      (Gens.the_row K V F A hash key_eq key_same key_exact key_clone value value_exact value_clone value_eq value_same remap function_exact
      function_clone alloc)
  map_send = search (sendable, map_fields_send) depth 30

  pub map_sync : IsSync
      (Gens.the_row K V F A hash key_eq key_same key_exact key_clone value value_exact value_clone value_eq value_same remap function_exact
      function_clone alloc)
  map_sync = search (sendable, map_fields_sync) depth 30
