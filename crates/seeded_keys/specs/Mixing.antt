-- Numbers of 64 bits under a seed.
use Rattle.std.specs.Int.RustNames.{bit_or}
use Rattle.std.specs.Prelude.{◌≡◌, ◌⊎◌, ℕ, ◌*◌, ◌/◌, ◌%◌, ◌^◌, bit_xor}
use Rattle.seeded_keys.specs.declared.number_seed.NumberSeed.{NumberSeed}

-- the seed of two numbers: the factor is the first one with its lowest bit set, and numbers are mixed with the second one
abbrev pub IsNumberSeed : ℕ → ℕ → NumberSeed → Type 0
IsNumberSeed key0 key1 seed = (seed.offset ≡ key1) × ((seed.factor ≡ bit_or key0 1) ⊎ (seed.factor ≡ 1))

-- the upper half mixed into the lower one
abbrev pub folded : ℕ → ℕ
folded x = bit_xor x (x / 2 ^ 32)

-- the number under which a number lies in a map
abbrev pub mixed : NumberSeed → ℕ → ℕ
mixed seed number = folded ((bit_xor number seed.offset * seed.factor) % 2 ^ 64)

-- the number that lies under it
abbrev pub unmixed : NumberSeed → ℕ → ℕ
unmixed seed key = bit_xor ((folded key * seed.inverse) % 2 ^ 64) seed.offset
