-- How the program tells of the end of a run, and how a command line may end it.
use Rattle.std.specs.Prelude.{◌≡◌, ◌⊎◌, ℕ, Bool, true, false, List, ◌++◌, codes, string_bytes}
use Rattle.clap.specs.declared.error.kind.ErrorKind.{ErrorKind}
use Rattle.clap.specs.declared.error.kind.ErrorKind.TheVariants.{DisplayHelp, DisplayVersion}
use Rattle.script.specs.Kinds.{fault_text}
use Rattle.mapcli_core.specs.Texts.{output_line}
use Rattle.mapcli_core.specs.declared.fault.Fault.{Fault}
use Rattle.mapcli_core.specs.declared.fault.Fault.TheVariants.{NoMemory, BadCapacity, BadWorkers, ScriptFault, Device}
use Rattle.mapcli_core.specs.declared.fault.Fault.TheVariants.{BinMissing, Usage, Help}

-- 0 where help or the version was asked, 1 for a script's fault, 2 for a wrong command line, 3 for what went wrong outside
abbrev pub status_of : Fault → ℕ
status_of (Help text) = 0
status_of (ScriptFault line kind) = 1
status_of (Usage text) = 2
status_of BadCapacity = 2
status_of BadWorkers = 2
status_of NoMemory = 3
status_of Device = 3
status_of BinMissing = 3

-- a command line ends a run by its own text, or where memory runs out
abbrev pub EndsWords : Fault → Type 0
EndsWords (Usage text) = Unit {0}
EndsWords (Help text) = Unit {0}
EndsWords NoMemory = Unit {0}
EndsWords (ScriptFault line kind) = ⊥
EndsWords BadCapacity = ⊥
EndsWords BadWorkers = ⊥
EndsWords Device = ⊥
EndsWords BinMissing = ⊥

-- a command line asks for help, or for the version
abbrev pub IsRequest : ErrorKind → Type 0
IsRequest kind = (kind ≡ DisplayHelp) ⊎ (kind ≡ DisplayVersion)

-- what was asked for ends it, or where memory runs out
abbrev pub EndsInHelp : Fault → Type 0
EndsInHelp (Help text) = Unit {0}
EndsInHelp NoMemory = Unit {0}
EndsInHelp _ = ⊥

-- what is told of an end: a command line's own text as it stands, and else one line
abbrev pub line_of : Fault → List ℕ
line_of (Usage text) = string_bytes text
line_of (Help text) = string_bytes text
line_of (ScriptFault line kind) = output_line (codes "mapcli: " ++ fault_text line kind)
line_of NoMemory = output_line (codes "mapcli: no memory")
line_of Device = output_line (codes "mapcli: device")
line_of BinMissing = output_line (codes "mapcli: bins missing")
line_of BadCapacity = output_line (codes "mapcli: the capacity is not 1 to 4096")
line_of BadWorkers = output_line (codes "mapcli: the workers are not 1 to 16")

-- help or the version was asked
abbrev pub is_help : Fault → Bool
is_help (Help text) = true
is_help _ = false
