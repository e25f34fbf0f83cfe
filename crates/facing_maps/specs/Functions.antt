-- What functions of maps make.
use Rattle.std.specs.Prelude.{ℕ, ◌+◌, min, max, Option, Some, None}
use Rattle.functions.specs.declared.nothing.NoFunction.{NoFunction}
use Rattle.facing_maps.specs.declared.merging.Merging.{Merging}
use Rattle.facing_maps.specs.declared.merging.Merging.TheVariants.{Add, Greatest, Set}

-- a compute call leaves the value
abbrev pub remapped : {K : Type 0} → Merging → K → Option ℕ → Option ℕ
remapped _ _ value = value

-- a number of 64 bits is no greater
abbrev pub greatest_number : ℕ
greatest_number = 18446744073709551615

-- the sum, or the end of the range where it is past that; the greater; or the one given
abbrev pub merged : Merging → ℕ → ℕ → Option ℕ
merged Add old given = Some (min (old + given) greatest_number)
merged Greatest old given = Some (max old given)
merged Set _ given = Some given

-- no function makes no value
abbrev pub no_value : {X Y V : Type 0} → NoFunction → X → Y → Option V
no_value _ _ _ = None
