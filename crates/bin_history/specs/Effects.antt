-- What a call does to the value at its key.
use Rattle.std.specs.Prelude.{Bool, false, Option, Some, None, cond, is_some}
use Rattle.bin_history.specs.Calls.{is_value}
use Rattle.bin_history.specs.declared.effect.Effect.{Effect}
use Rattle.bin_history.specs.declared.effect.Effect.TheVariants.{Keep, Give, Set}
use Rattle.bin_history.specs.declared.op.Op.{Op}
use Rattle.bin_history.specs.declared.op.Op.TheVariants as op

-- what a call that answers whether something is so finds, by the value before it
abbrev pub holds : {V F : Type 0} → (V → V → Bool) → Op V F → Option V → Bool
holds same_value op.Get before = false
holds same_value op.Contains before = is_some before
holds same_value (op.Put _) before = false
holds same_value (op.PutIfAbsent _) before = false
holds same_value op.Remove before = false
holds same_value (op.RemoveIf v) before = is_value same_value before v
holds same_value (op.Replace _) before = false
holds same_value (op.ReplaceIf old _) before = is_value same_value before old
holds same_value (op.ComputeIfAbsent _) before = false
holds same_value (op.ComputeIfPresent _) before = false
holds same_value (op.Compute _) before = false
holds same_value (op.Merge _ _) before = false

-- what a call on the key does, by the value before it
abbrev pub effect_of : {K V F : Type 0} → (V → V → Bool) → (F → K → Option V → Option V) → (F → V → V → Option V) → K
    → Op V F → Option V → Effect V
effect_of same_value remapped merged k op.Get before = Keep
effect_of same_value remapped merged k op.Contains before = Keep
effect_of same_value remapped merged k (op.Put _) before = Give
effect_of same_value remapped merged k (op.PutIfAbsent _) None = Give
effect_of same_value remapped merged k (op.PutIfAbsent _) (Some _) = Keep
effect_of same_value remapped merged k op.Remove before = Set None
effect_of same_value remapped merged k (op.RemoveIf v) before = cond (is_value same_value before v) (Set None) Keep
effect_of same_value remapped merged k (op.Replace _) None = Keep
effect_of same_value remapped merged k (op.Replace _) (Some _) = Give
effect_of same_value remapped merged k (op.ReplaceIf old _) before = cond (is_value same_value before old) Give Keep
effect_of same_value remapped merged k (op.ComputeIfAbsent f) None = Set (remapped f k None)
effect_of same_value remapped merged k (op.ComputeIfAbsent f) (Some _) = Keep
effect_of same_value remapped merged k (op.ComputeIfPresent f) None = Keep
effect_of same_value remapped merged k (op.ComputeIfPresent f) (Some x) = Set (remapped f k (Some x))
effect_of same_value remapped merged k (op.Compute f) before = Set (remapped f k before)
effect_of same_value remapped merged k (op.Merge v f) None = Give
effect_of same_value remapped merged k (op.Merge v f) (Some x) = Set (merged f x v)
