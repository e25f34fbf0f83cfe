-- What kind of reply a call has.
use Rattle.std.specs.Prelude.{Bool, true, false}
use Rattle.bin_history.specs.declared.op.Op.{Op}
use Rattle.bin_history.specs.declared.op.Op.TheVariants as op

-- whether the reply is a truth, and not a value
abbrev pub answers_truth : {V F : Type 0} → Op V F → Bool
answers_truth op.Contains = true
answers_truth (op.RemoveIf _) = true
answers_truth (op.ReplaceIf _ _) = true
answers_truth _ = false
