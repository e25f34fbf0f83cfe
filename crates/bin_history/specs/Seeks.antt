-- Calls that seek their key, as calls without it.
use Rattle.bin_history.specs.declared.op.Op.{Op}
use Rattle.bin_history.specs.declared.op.Op.TheVariants as op
use Rattle.bin_history.specs.declared.seek.Seek.{Seek}
use Rattle.bin_history.specs.declared.seek.Seek.TheVariants as seek

abbrev pub op_for : {V F : Type 0} → Seek → Op V F
op_for seek.Get = op.Get
op_for seek.Contains = op.Contains
op_for seek.Remove = op.Remove
