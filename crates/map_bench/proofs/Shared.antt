-- Threads may share a map of the benchmark, its keys and its settings.
use denote.RattleType.{RattleType}
use denote.Param.Send.{IsSend, IsSync, Frees, sendable}
use denote.Ref.{NamedLft}
use Rattle.std.proofs.CrossingOver.{crosses}
use Rattle.std.proofs.sync.atomic.AtomicU64.TheSendSync as atomic
use Rattle.std.specs.declared.alloc.Allocator as Allocator
use Rattle.std.specs.declared.clone.Clone as Clone
use Rattle.std.specs.declared.cmp.Eq as Eq
use Rattle.std.specs.declared.cmp.PartialEq as PartialEq
use Rattle.hashkeys.specs.contracts.key.Key as Key
use Rattle.map_bench.specs.contracts.name.Name as Name
use Rattle.hashkeys.specs.declared.exact.Exact as Exact
use Rattle.hashkeys.specs.declared.hashing.HashKey as HashKey
use Rattle.bin_history.specs.declared.call.Remap as Remap
use Rattle.bin_history.specs.declared.call.Value as Value
use Rattle.functions.specs.contracts.numbers.Add as Add
use Rattle.chm.specs.contracts.map.Map as Map
use Rattle.chm.proofs.Shared.{map_sync}
use Rattle.map_bench.specs.contracts.settings.Settings as Settings
use Rattle.map_bench.specs.contracts.work.Run as Run

-- what the threads of a run share
key_sync : IsSync Key.the_row
key_sync = search (sendable, crosses) depth 20

name_send : IsSend Name.the_row
name_send = search (sendable, crosses, key_sync) depth 20

name_sync : IsSync Name.the_row
name_sync = search (sendable, crosses, key_sync) depth 20

add_send : IsSend Add.the_row
add_send = search (sendable, crosses) depth 20

add_sync : IsSync Add.the_row
add_sync = search (sendable, crosses) depth 20

settings_sync : IsSync Settings.the_row
settings_sync = search sendable depth 40

pub run_sync : (a : NamedLft) → IsSync (Run.the_row a)
run_sync a = search (sendable, crosses, key_sync, settings_sync, atomic.the_sync) depth 30

module _ (V A : RattleType) (hash : HashKey.Ghosts Name.the_row.Denot) (key_eq : Eq.Ghosts Name.the_row.Denot)
    (key_same : PartialEq.Ghosts Name.the_row.Denot)
    (key_exact : Exact.Ghosts Name.the_row.Denot) (key_clone : Clone.Ghosts Name.the_row.Denot) (value : Value.Ghosts V.Denot)
    (value_exact : Exact.Ghosts V.Denot) (value_clone : Clone.Ghosts V.Denot) (value_eq : Eq.Ghosts V.Denot)
    (value_same : PartialEq.Ghosts V.Denot)
    (remap : Remap.Ghosts Add.the_row.Denot Name.the_row.Denot V.Denot)
    (function_exact : Exact.Ghosts Add.the_row.Denot) (function_clone : Clone.Ghosts Add.the_row.Denot) (alloc : Allocator.Ghosts A.Denot)
    (sv : IsSend V) (sa : IsSend A) (yv : IsSync V) (ya : IsSync A) (frees : Frees alloc alloc.dealloc_token) where
  pub bench_map_sync : IsSync
      (Map.the_row Name.the_row V Add.the_row A hash key_eq key_same key_exact key_clone value value_exact value_clone value_eq value_same
      remap function_exact function_clone
      alloc)
  bench_map_sync = search (map_sync, name_send, name_sync, add_send, add_sync) depth 20
