-- Records of calls.
use Rattle.std.specs.Prelude.{ℕ, Option, Some, None}
use Rattle.bin_history.specs.declared.call.Call.{Call}
use Rattle.bin_history.specs.declared.record.Values.{Values}
use Rattle.bin_history.specs.declared.record.Values.TheVariants.{Neither, Before, After, Both}

-- a call that was made, as contracts see it
pub record RecordView (K V F : Type 0) : Type 0 where
  pub client : ℕ
  pub ordinal : ℕ
  pub call : Call K V F
  pub before : Option V
  pub after : Option V

-- the value just before the call, and the one just after it
abbrev pub before_of : {V : Type 0} → Values V → Option V
before_of Neither = None
before_of (Before v) = Some v
before_of (After w) = None
before_of (Both v w) = Some v

abbrev pub after_of : {V : Type 0} → Values V → Option V
after_of Neither = None
after_of (Before v) = None
after_of (After w) = Some w
after_of (Both v w) = Some w
