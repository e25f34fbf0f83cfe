-- What a sum of so many numbers lies within.
use Rattle.std.specs.Prelude.{ℕ, ℤ, pos, ◌*◌, ◌^◌, ◌≤◌, ◌≤ℤ◌, neg_ℤ}

-- of numbers of 64 bits with a sign
abbrev pub IsSumOfSigned : ℕ → ℤ → Type 0
IsSumOfSigned n a = (neg_ℤ (pos (n * 2 ^ 63)) ≤ℤ a) × (a ≤ℤ pos (n * 2 ^ 63))

-- of numbers of 64 bits without one
abbrev pub IsSumOfUnsigned : ℕ → ℕ → Type 0
IsSumOfUnsigned n a = a ≤ n * 2 ^ 64
