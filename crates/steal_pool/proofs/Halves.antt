-- Half of a batch has room in half of the nodes.
use Rattle.std.proofs.Common.{◌≡◌, ℕ, zero, suc, ◌-◌, ◌*◌, ◌/◌, ◌^◌, ◌<◌, subst, arith}
use Rattle.std.proofs.Math.Nat.{pow-succ'}

-- a batch above 0 has room for a fork
pub has_room : (b level : ℕ) → 0 < b → b < 2 ^ level → 0 < level
has_room b zero some lt = absurd (omega arith)
has_room b (suc k) some lt = omega arith

pub half_room : (b level : ℕ) → 0 < level → b < 2 ^ level → b / 2 < 2 ^ (level - 1)
half_room b zero some lt = absurd (omega arith)
half_room b (suc k) some lt = let e = pow-succ' 2 k in let n : ℕ = 2 ^ suc k in let m : ℕ = 2 ^ k in
    let e' : n ≡ 2 * m = e in
    let l : b < n = lt in let q : b / 2 < m = omega arith in
    let z : k ≡ suc k - 1 = omega arith in subst (λ (i : ℕ). b / 2 < 2 ^ i) z q
