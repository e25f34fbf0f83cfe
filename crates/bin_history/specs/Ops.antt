-- Calls without their keys.
use Rattle.std.specs.Prelude.{Bool, true, false, Option, Some, None}
use Rattle.bin_history.specs.declared.call.Call.{Call}
use Rattle.bin_history.specs.declared.call.Call.TheVariants.{Get, Contains, Put, PutIfAbsent, Remove, RemoveIf, Replace}
use Rattle.bin_history.specs.declared.call.Call.TheVariants.{ReplaceIf, ComputeIfAbsent}
use Rattle.bin_history.specs.declared.call.Call.TheVariants.{ComputeIfPresent, Compute, Merge}
use Rattle.bin_history.specs.declared.op.Op.{Op}
use Rattle.bin_history.specs.declared.op.Op.TheVariants as op
pub use Rattle.bin_entries.specs.Keys.{key_in}

-- the call on a key
abbrev pub call_on : {K V F : Type 0} → K → Op V F → Call K V F
call_on k op.Get = Get k
call_on k op.Contains = Contains k
call_on k (op.Put v) = Put k v
call_on k (op.PutIfAbsent v) = PutIfAbsent k v
call_on k op.Remove = Remove k
call_on k (op.RemoveIf v) = RemoveIf k v
call_on k (op.Replace v) = Replace k v
call_on k (op.ReplaceIf old new) = ReplaceIf k old new
call_on k (op.ComputeIfAbsent f) = ComputeIfAbsent k f
call_on k (op.ComputeIfPresent f) = ComputeIfPresent k f
call_on k (op.Compute f) = Compute k f
call_on k (op.Merge v f) = Merge k v f

-- whether the call may give a value to a key that has none
abbrev pub may_add : {V F : Type 0} → Op V F → Bool
may_add op.Get = false
may_add op.Contains = false
may_add (op.Put _) = true
may_add (op.PutIfAbsent _) = true
may_add op.Remove = false
may_add (op.RemoveIf _) = false
may_add (op.Replace _) = false
may_add (op.ReplaceIf _ _) = false
may_add (op.ComputeIfAbsent _) = true
may_add (op.ComputeIfPresent _) = false
may_add (op.Compute _) = true
may_add (op.Merge _ _) = true

-- the value that the call may give its key, where it brings one
abbrev pub value_of : {V F : Type 0} → Op V F → Option V
value_of op.Get = None
value_of op.Contains = None
value_of (op.Put v) = Some v
value_of (op.PutIfAbsent v) = Some v
value_of op.Remove = None
value_of (op.RemoveIf _) = None
value_of (op.Replace v) = Some v
value_of (op.ReplaceIf _ new) = Some new
value_of (op.ComputeIfAbsent _) = None
value_of (op.ComputeIfPresent _) = None
value_of (op.Compute _) = None
value_of (op.Merge v _) = Some v
