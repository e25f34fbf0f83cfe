-- The form of each call.
use Rattle.bin_history.specs.declared.call.Call.TheVariants.{Get, Contains as Holds, Put, PutIfAbsent, Remove, RemoveIf}
use Rattle.bin_history.specs.declared.call.Call.TheVariants.{Replace, ReplaceIf, ComputeIfAbsent}
use Rattle.bin_history.specs.declared.call.Call.TheVariants.{ComputeIfPresent, Compute, Merge}
use Rattle.script.specs.Grammar.{Form, key, key_number, key_numbers, key_function, key_merger}
use Rattle.script.specs.declared.command.Command.{Command}
use Rattle.script.specs.declared.command.Command.TheVariants as commands

abbrev pub form : Command → Form
form commands.Get = key Get
form commands.Contains = key Holds
form commands.Put = key_number Put
form commands.PutIfAbsent = key_number PutIfAbsent
form commands.Remove = key Remove
form commands.RemoveIf = key_number RemoveIf
form commands.Replace = key_number Replace
form commands.ReplaceIf = key_numbers ReplaceIf
form commands.ComputeIfAbsent = key_function ComputeIfAbsent
form commands.ComputeIfPresent = key_function ComputeIfPresent
form commands.Compute = key_function Compute
form commands.Merge = key_merger Merge
