-- Calls that a lean map makes in the memory that it has.
use Rattle.std.specs.Prelude.{◌≡◌, Result, IfErr}
use Rattle.bin_history.specs.Sure.{IsNeverRefused}
use Rattle.bin_history.specs.declared.form.Form.{Form}
use Rattle.bin_history.specs.declared.form.Form.TheVariants.{Lean}
use Rattle.bin_history.specs.declared.op.Op.{Op}
use Rattle.bin_history.specs.declared.op.Op.TheVariants as op
use Rattle.chm.specs.declared.fault.Fault.{Fault}
use Rattle.chm.specs.declared.fault.Fault.TheVariants.{PassFull}

-- the call can add no entry and uses no function, and where it copies a value no copy fails
abbrev pub NeedsNoMemory : {V F : Type 0} → (V → Type 0) → Op V F → Type 0
NeedsNoMemory value_copies op.Get = IsNeverRefused value_copies
NeedsNoMemory value_copies op.Contains = Unit {0}
NeedsNoMemory value_copies (op.Put _) = ⊥
NeedsNoMemory value_copies (op.PutIfAbsent _) = ⊥
NeedsNoMemory value_copies op.Remove = Unit {0}
NeedsNoMemory value_copies (op.RemoveIf _) = Unit {0}
NeedsNoMemory value_copies (op.Replace _) = Unit {0}
NeedsNoMemory value_copies (op.ReplaceIf _ _) = Unit {0}
NeedsNoMemory value_copies (op.ComputeIfAbsent _) = ⊥
NeedsNoMemory value_copies (op.ComputeIfPresent _) = ⊥
NeedsNoMemory value_copies (op.Compute _) = ⊥
NeedsNoMemory value_copies (op.Merge _ _) = ⊥

-- the call was made, or the pass is full
abbrev pub IsMadeOrFull : {T : Type 0} → Result T Fault → Type 0
IsMadeOrFull result = IfErr result (λ fault. fault ≡ PassFull)

-- a call that needs no memory is made by a lean map unless the pass is full
abbrev pub IsSureOf : {V F T : Type 0} → (V → Type 0) → Form → Op V F → Result T Fault → Type 0
IsSureOf value_copies form op result = form ≡ Lean → NeedsNoMemory value_copies op → IsMadeOrFull result
