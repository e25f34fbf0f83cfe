-- Which power of two a number is.
use Rattle.std.proofs.Common.{◌≡◌, ℕ, zero, suc, ◌^◌, ◌≤◌, refl, sym, subst, arith, w64}
use Rattle.std.specs.Int.{trailing_zeros}
use Rattle.completers.specs.Limits.{most_nodes}

zeros : (l : ℕ) → l ≤ 7 → (trailing_zeros w64 (2 ^ l) ≡ l) × (2 ^ l ≤ most_nodes)
unfolding lib.Count.count_trailing_zeros
zeros zero few = (refl, omega arith)
zeros (suc zero) few = (refl, omega arith)
zeros (suc (suc zero)) few = (refl, omega arith)
zeros (suc (suc (suc zero))) few = (refl, omega arith)
zeros (suc (suc (suc (suc zero)))) few = (refl, omega arith)
zeros (suc (suc (suc (suc (suc zero))))) few = (refl, omega arith)
zeros (suc (suc (suc (suc (suc (suc zero)))))) few = (refl, omega arith)
zeros (suc (suc (suc (suc (suc (suc (suc zero))))))) few = (refl, omega arith)
zeros (suc (suc (suc (suc (suc (suc (suc (suc l)))))))) few = absurd (omega arith)

pub power : (n l : ℕ) → l ≤ 7 → n ≡ 2 ^ l → (trailing_zeros w64 n ≤ 7) × (n ≡ 2 ^ trailing_zeros w64 n)
    × (n ≤ most_nodes)
power n l few e = subst (λ (m : ℕ). (trailing_zeros w64 m ≤ 7) × (m ≡ 2 ^ trailing_zeros w64 m) × (m ≤ most_nodes))
    (sym e)
    (subst (λ (k : ℕ). (k ≤ 7) × (2 ^ l ≡ 2 ^ k) × (2 ^ l ≤ most_nodes)) (sym (zeros l few).0)
    (few, refl, (zeros l few).1))
