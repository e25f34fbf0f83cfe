-- Keys of bytes under a seed.
use Rattle.std.specs.Prelude.{◌≡◌, ◌⊎◌, ℕ, ◌<◌, ◌≤◌, Bool, ◌&&◌, nat_eq, max, List, length}
use Rattle.std.specs.Cmp.Lexicographic.{pointwise}
use Rattle.bin_history.specs.declared.op.Op.{Op}
use Rattle.bin_history.specs.declared.op.Op.TheVariants as op
use Rattle.functions.specs.declared.nothing.NoFunction.{NoFunction}
use Rattle.facing_maps.specs.Statuses.{facing_longest, facing_longest_value, facing_no_memory, facing_too_long}
use Rattle.seeded_keys.specs.Places.{KeyView}
use Rattle.seeded_keys.specs.Seeds.{keyed}
use Rattle.seeded_keys.specs.declared.seed.Seed.{Seed}

-- a key, a value, or room for a value
abbrev pub Bytes : Type 0
Bytes = List ℕ

-- bytes beside their code
abbrev pub Key : Type 0
Key = KeyView

-- the key that a seed makes of bytes: its code is that of the seed, so equal bytes under one seed are one key
abbrev pub key_of : Seed → Bytes → Key
key_of seed bytes = record { code = keyed seed bytes; bytes = bytes }

abbrev pub same_bytes : Bytes → Bytes → Bool
same_bytes = pointwise nat_eq

abbrev pub same_key : Key → Key → Bool
same_key x y = nat_eq x.code y.code && same_bytes x.bytes y.bytes

abbrev pub code_in : Key → ℕ
code_in key = key.code

-- how long the longest of a call's values is
abbrev pub longest : Op Bytes NoFunction → ℕ
longest op.Get = 0
longest op.Contains = 0
longest (op.Put value) = length value
longest (op.PutIfAbsent value) = length value
longest op.Remove = 0
longest (op.RemoveIf value) = length value
longest (op.Replace value) = length value
longest (op.ReplaceIf old new) = max (length old) (length new)
longest (op.ComputeIfAbsent _) = 0
longest (op.ComputeIfPresent _) = 0
longest (op.Compute _) = 0
longest (op.Merge value _) = length value

-- a call that is not tried, by how long its key is: that is too long, or there is no memory
abbrev pub IsRefusal : ℕ → ℕ → Type 0
IsRefusal long status = ((status ≡ facing_too_long) × (facing_longest < long))
    ⊎ ((status ≡ facing_no_memory) × (long ≤ facing_longest))

-- a look that is not tried, as the key is too long
abbrev pub IsTooLong : ℕ → ℕ → Type 0
IsTooLong long status = (status ≡ facing_too_long) × (facing_longest < long)

-- a call on a key of bytes, whose longest value has so many: neither is too long
abbrev pub AreAllowed : Bytes → ℕ → Type 0
AreAllowed key long = (length key ≤ facing_longest) × (long ≤ facing_longest_value)

-- a call that is not tried: its key or a value is too long, or there is no memory
abbrev pub IsRefusalOf : Bytes → ℕ → ℕ → Type 0
IsRefusalOf key long status = ((status ≡ facing_too_long) × ((facing_longest < length key) ⊎ (facing_longest_value < long)))
    ⊎ ((status ≡ facing_no_memory) × AreAllowed key long)
