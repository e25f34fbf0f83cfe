use Rattle.std.proofs.Common.{◌≡◌, ◌<◌, ◌≤◌, ℕ, ◌-◌, ◌*◌, ◌%◌, ◌^◌, ap, sym, subst, ◌∙◌, arith}
use Rattle.std.specs.Int.Bits.{bit_and}
use Rattle.std.proofs.Math.Nat.{mod-eq_of_lt, mod-lt}
use Rattle.std.proofs.lemmas.Nat.{and_mask, pow_pos, pow_below}
use Rattle.lean_bins.proofs.hold.index_among.Goals as goal

mask_of : (hash exponent : ℕ) → exponent ≤ 26 → bit_and hash (1 * 2 ^ exponent % 4294967296 - 1) ≡ hash % 2 ^ exponent
mask_of hash exponent few =
    let p : ℕ = 2 ^ exponent in
    let small : p < 4294967296 = pow_below exponent 32 (omega arith) in
    let same : 1 * p % 4294967296 ≡ p = omega (arith, mod-eq_of_lt {n = p} {m = 4294967296} small) in
    ap (λ (k : ℕ). bit_and hash (k - 1)) same ∙ and_mask hash exponent

pub returns-clause-value : goal.returns-clause-value
returns-clause-value c = mask_of c.args.hash c.args.exponent c.requires

pub returns-clause-below : goal.returns-clause-below
returns-clause-below c =
    subst (λ (k : ℕ). k < 2 ^ c.args.exponent) (sym (mask_of c.args.hash c.args.exponent c.requires))
    (mod-lt c.args.hash (pow_pos c.args.exponent))
