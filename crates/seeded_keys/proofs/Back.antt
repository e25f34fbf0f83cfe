-- A number that was mixed under a seed comes back.
use Rattle.std.proofs.Common.{◌≡◌, ℕ, ◌<◌, ◌*◌, ◌/◌, ◌%◌, sym, ap, ◌∙◌, arith}
use Rattle.std.specs.Int.Bits.{bit_xor, xor_assoc, xor_self, xor_zero_r}
use Rattle.std.proofs.Math.Nat.{mul_assoc, mod-eq_of_lt}
use Rattle.std.proofs.lemmas.Nat.{mul-mod_first, mul-mod_second, xor_shr, xor_lt}
use Rattle.seeded_keys.specs.Mixing.{folded, mixed, unmixed}
use Rattle.seeded_keys.specs.declared.number_seed.NumberSeed.{NumberSeed}

-- an exclusive-or with the same number, twice
twice : (x y : ℕ) → bit_xor (bit_xor x y) y ≡ x
twice x y = xor_assoc x y y ∙ ap (bit_xor x) (xor_self y) ∙ xor_zero_r x

pub folded_twice : (x : ℕ) → x < 18446744073709551616 → folded (folded x) ≡ x
folded_twice x small =
    let none : x / 4294967296 / 4294967296 ≡ 0 = omega (arith, small) in
    let half : bit_xor x (x / 4294967296) / 4294967296 ≡ x / 4294967296 = xor_shr x (x / 4294967296) 32
    ∙ ap (bit_xor (x / 4294967296)) none ∙ xor_zero_r (x / 4294967296) in
    ap (bit_xor (bit_xor x (x / 4294967296))) half ∙ twice x (x / 4294967296)

-- a multiplication by a number, and by the one with which its product is 1
pub factor_back : (m f i : ℕ) → m < 18446744073709551616 → (f * i) % 18446744073709551616 ≡ 1
    → ((m * f) % 18446744073709551616 * i) % 18446744073709551616 ≡ m
factor_back m f i small one = mul-mod_first (m * f) i 18446744073709551616
    ∙ ap (λ (p : ℕ). p % 18446744073709551616) (mul_assoc m f i)
    ∙ sym (mul-mod_second m (f * i) 18446744073709551616)
    ∙ ap (λ (p : ℕ). (m * p) % 18446744073709551616) one
    ∙ ap (λ (p : ℕ). p % 18446744073709551616) (omega arith)
    ∙ mod-eq_of_lt small

pub back : (seed : NumberSeed) → (seed.factor * seed.inverse) % 18446744073709551616 ≡ 1
    → seed.offset < 18446744073709551616 → (number : ℕ) → number < 18446744073709551616
    → unmixed seed (mixed seed number) ≡ number
back seed one offset number small =
    let other : ℕ = bit_xor number seed.offset in
    let other_small : other < 18446744073709551616 = xor_lt 64 number seed.offset small offset in
    ap (λ (x : ℕ). bit_xor ((x * seed.inverse) % 18446744073709551616) seed.offset)
    (folded_twice ((other * seed.factor) % 18446744073709551616) (omega arith))
    ∙ ap (λ (x : ℕ). bit_xor x seed.offset) (factor_back other seed.factor seed.inverse other_small one)
    ∙ twice number seed.offset
