-- Threads may share the bins of a map.
use denote.RattleType.{RattleType}
use denote.Struct.Declared.{shape}
use denote.Param.Send.{IsSend, IsSync, Frees, AllSend, AllSync, sendable}
use Rattle.std.specs.declared.alloc.Allocator as Allocator
use Rattle.std.specs.declared.clone.Clone as Clone
use Rattle.std.specs.declared.cmp.Eq as Eq
use Rattle.std.specs.declared.cmp.PartialEq as PartialEq
use Rattle.hashkeys.specs.declared.exact.Exact as Exact
use Rattle.hashkeys.specs.declared.hashing.HashKey as HashKey
use Rattle.bin_history.specs.declared.call.Remap as Remap
use Rattle.bin_history.specs.declared.call.Value as Value
use Rattle.generations.proofs.Shared as generations
use Rattle.generations.specs.contracts.generations.Generations as Generations
use Rattle.lean_bins.proofs.Shared as lean
use Rattle.lean_bins.specs.contracts.bins.LeanBins as LeanBins
use Rattle.bin_store.specs.contracts.store.BinStore as BinStore
use Rattle.bin_store.specs.contracts.store.BinStore.TheInside as Inside

module _ (K V F A : RattleType) (hash : HashKey.Ghosts K.Denot) (key_eq : Eq.Ghosts K.Denot)
    (key_same : PartialEq.Ghosts K.Denot)
    (key_exact : Exact.Ghosts K.Denot) (key_clone : Clone.Ghosts K.Denot) (value : Value.Ghosts V.Denot) (value_exact : Exact.Ghosts V.Denot)
    (value_clone : Clone.Ghosts V.Denot) (value_eq : Eq.Ghosts V.Denot)
    (value_same : PartialEq.Ghosts V.Denot)
    (remap : Remap.Ghosts F.Denot K.Denot V.Denot) (function_exact : Exact.Ghosts F.Denot) (function_clone : Clone.Ghosts F.Denot)
    (alloc : Allocator.Ghosts A.Denot)
    (sk : IsSend K) (sv : IsSend V) (sf : IsSend F) (sa : IsSend A) (yk : IsSync K) (yv : IsSync V) (yf : IsSync F)
    (ya : IsSync A)
    (frees : Frees alloc alloc.dealloc_token) where
  recorded_send : IsSend
      (Generations.the_row K V F A hash key_eq key_same key_exact key_clone value value_exact value_clone value_eq value_same remap
      function_exact function_clone
      alloc)
  recorded_send = generations.map_send K V F A hash key_eq key_same key_exact key_clone value value_exact value_clone value_eq value_same
      remap function_exact
      function_clone alloc sk sv sf sa yk yv yf ya frees

  lean_send : IsSend
      (LeanBins.the_row K V F A hash key_eq key_same key_exact key_clone value value_exact value_clone value_eq value_same remap
      function_exact function_clone
      alloc)
  lean_send = lean.map_send K V F A hash key_eq key_same key_exact key_clone value value_exact value_clone value_eq value_same remap function_exact
      function_clone alloc sk sv sf sa yk yv yf ya frees

  recorded_sync : IsSync
      (Generations.the_row K V F A hash key_eq key_same key_exact key_clone value value_exact value_clone value_eq value_same remap
      function_exact function_clone
      alloc)
  recorded_sync = generations.map_sync K V F A hash key_eq key_same key_exact key_clone value value_exact value_clone value_eq value_same
      remap function_exact
      function_clone alloc sk sv sf sa yk yv yf ya frees

  lean_sync : IsSync
      (LeanBins.the_row K V F A hash key_eq key_same key_exact key_clone value value_exact value_clone value_eq value_same remap
      function_exact function_clone
      alloc)
  lean_sync = lean.map_sync K V F A hash key_eq key_same key_exact key_clone value value_exact value_clone value_eq value_same remap function_exact
      function_clone alloc sk sv sf sa yk yv yf ya frees

  fields_send : AllSend
      (shape (Inside.the_type K V F A hash key_eq key_same key_exact key_clone value value_exact value_clone value_eq value_same remap function_exact
      function_clone alloc)).fields
  fields_send = (search (sendable, recorded_send, lean_send) depth 30, tt)

  fields_sync : AllSync
      (shape (Inside.the_type K V F A hash key_eq key_same key_exact key_clone value value_exact value_clone value_eq value_same remap function_exact
      function_clone alloc)).fields
  fields_sync = (search (sendable, recorded_sync, lean_sync) depth 30, tt)

  pub map_send : IsSend
      (BinStore.the_row K V F A hash key_eq key_same key_exact key_clone value value_exact value_clone value_eq value_same remap
      function_exact function_clone alloc)
  map_send = search (sendable, fields_send) depth 20

  pub map_sync : IsSync
      (BinStore.the_row K V F A hash key_eq key_same key_exact key_clone value value_exact value_clone value_eq value_same remap
      function_exact function_clone alloc)
  map_sync = search (sendable, fields_sync) depth 20
