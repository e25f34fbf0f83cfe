-- How a result and the count of a device's failures go together.
use Rattle.std.specs.Prelude.{◌≡◌, ℕ, ◌⊎◌, Result, Ok, Err}
use Rattle.chm.specs.declared.fault.Fault as map
use Rattle.chm.specs.declared.fault.Fault.TheVariants as of_map
use Rattle.script.specs.declared.fault.ParseError.{ParseError}
use Rattle.script.specs.declared.fault.ParseError.TheVariants as errors
use Rattle.mapcli_core.specs.Devices.{one_more}
use Rattle.mapcli_core.specs.declared.fault.Fault.{Fault}
use Rattle.mapcli_core.specs.declared.fault.Fault.TheVariants.{NoMemory, BadCapacity, BadWorkers, ScriptFault, Device}
use Rattle.mapcli_core.specs.declared.fault.Fault.TheVariants.{BinMissing, Usage, Help}

-- the count of the one device is one more where the fault is of a device, and else as it was
abbrev pub count_after_fault : Fault → ℕ → ℕ
count_after_fault Device n = one_more n
count_after_fault NoMemory n = n
count_after_fault BadCapacity n = n
count_after_fault BadWorkers n = n
count_after_fault (ScriptFault line kind) n = n
count_after_fault BinMissing n = n
count_after_fault (Usage text) n = n
count_after_fault (Help text) n = n

abbrev pub count_after : {T : Type 0} → Result T Fault → ℕ → ℕ
count_after (Ok x) n = n
count_after (Err fault) n = count_after_fault fault n

-- a refused text as a fault of the program
abbrev pub fault_of : ParseError → Fault
fault_of errors.NoMemory = NoMemory
fault_of (errors.Fault f) = ScriptFault f.line f.kind

-- playing a script's blocks ends early where memory runs out, or bins of the map were missing when it was closed
abbrev pub IsOfPlay : map.Fault → Type 0
IsOfPlay fault = (fault ≡ of_map.NoMemory) ⊎ (fault ≡ of_map.BinMissing)

-- such a refusal of the map, and the fault of the program that it is
abbrev pub IsRefusedAs : map.Fault → Fault → Type 0
IsRefusedAs refusal fault = ((refusal ≡ of_map.NoMemory) × (fault ≡ NoMemory))
    ⊎ ((refusal ≡ of_map.BinMissing) × (fault ≡ BinMissing))
