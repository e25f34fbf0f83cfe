-- What the functions of a script make of the value at a key.
use Rattle.std.specs.Prelude.{ℕ, ℤ, ◌+ℤ◌, List, Option, Some, None}
use Rattle.std.specs.Int.{w64, int_max, saturate_signed}
use Rattle.script.specs.declared.function.Function.{Function}
use Rattle.script.specs.declared.function.Function.TheVariants.{Sum, Max, Set, Drop}

abbrev pub result_of : Function → Option ℤ → Option ℤ
result_of (Sum n) None = Some n
result_of (Sum n) (Some x) = Some (saturate_signed w64 (x +ℤ n))
result_of (Max n) None = Some n
result_of (Max n) (Some x) = Some (int_max x n)
result_of (Set n) value = Some n
result_of Drop value = None

-- the function with another number
abbrev pub with_number : Function → ℤ → Function
with_number (Sum _) n = Sum n
with_number (Max _) n = Max n
with_number (Set _) n = Set n
with_number Drop n = Drop

-- a compute call applies the function to the value at the key
abbrev pub remapped : Function → List ℕ → Option ℤ → Option ℤ
remapped f key value = result_of f value

-- a merge on a present key applies it to the old value, with the given value for its number
abbrev pub merged : Function → ℤ → ℤ → Option ℤ
merged f old given = result_of (with_number f given) (Some old)
