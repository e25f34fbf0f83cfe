-- Sizes of tables.
use Rattle.std.proofs.Common.{◌≡◌, ℕ, ◌+◌, ◌*◌, ◌^◌, ◌<◌, ◌≤◌, inl, inr, arith}
use Rattle.std.proofs.Math.Pow.{pow_mono}
use Rattle.std.proofs.lemmas.Bool.{cases_lt}
use Rattle.std.proofs.lemmas.Grind.{pow_more}
use Rattle.std.proofs.lemmas.Nat.{pow_pos}
use Rattle.hashkeys.specs.Classes.{IsTableSize}
use Rattle.hashkeys.specs.Limits.{most_bins}

pub size_pos : (n : ℕ) → IsTableSize n → 0 < n
size_pos n (e, le, is) = omega (arith, is, pow_pos e)

pub size_few : (n : ℕ) → IsTableSize n → n ≤ most_bins
size_few n (e, le, is) = let top : 2 ^ e ≤ 67108864 = pow_mono {i = e} {j = 26} le in omega (arith, is)

-- of a table's size the logarithm is the exponent
pub exponent_is : (size e : ℕ) → IsTableSize size → 2 ^ e ≤ size → size < 2 * 2 ^ e → 2 ^ e ≡ size
exponent_is size e (k, le, is) low high = elim (cases_lt e k) [
  | inl l ↦ absurd (omega (arith, is, pow_mono {i = e + 1} {j = k} (omega arith), pow_more 2 e))
  | inr ge ↦ omega (arith, is, pow_mono {i = k} {j = e} ge)
]
