-- Values above a bound.
use Rattle.std.specs.Prelude.{ℤ, Option, Some, None, cond}
use Rattle.std.specs.Int.Signed.{lt_z}

-- the value, if it is above the bound
abbrev pub above : ℤ → ℤ → Option ℤ
above bound v = cond (lt_z bound v) (Some v) None
