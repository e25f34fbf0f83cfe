-- A set as a map whose values are nothing.
use Rattle.std.specs.Prelude.{⊤, Bool, true, false, Option, Some, None}
use Rattle.functions.specs.declared.nothing.NoFunction.{NoFunction}

-- two values are the same
abbrev pub same_value : {V : Type 0} → V → V → Bool
same_value _ _ = true

-- no function makes no value
abbrev pub no_value : {X Y V : Type 0} → NoFunction → X → Y → Option V
no_value _ _ _ = None

-- the value of a key that is in a set, and of one that is not
abbrev pub value_if : Bool → Option ⊤
value_if true = Some tt
value_if false = None

-- the value before, of a key that was inserted, or that was there
abbrev pub value_unless : Bool → Option ⊤
value_unless true = None
value_unless false = Some tt
