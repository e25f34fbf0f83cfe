-- What a step leaves of a value.
use Rattle.std.specs.Prelude.{ℕ, ◌+◌, nat_lt, if◌then◌else◌, min, Option, None, Some}

-- a value below 2^32 is added to, up to the greatest number of 64 bits, and a greater one taken away
abbrev pub added : ℕ → ℕ → Option ℕ
added amount value = if nat_lt value 4294967296 then Some (min (value + amount) 18446744073709551615) else None

-- an absent key gets the amount
abbrev pub stepped : ℕ → Option ℕ → Option ℕ
stepped amount None = Some amount
stepped amount (Some value) = added amount value
