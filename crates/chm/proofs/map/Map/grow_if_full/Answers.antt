use Rattle.std.proofs.Common.{ℕ, ◌≤◌, ◌^◌, sym, subst}
use lib.Pow.{pow_mono}
use Rattle.chm.proofs.map.Map.grow_if_full.Goals as goal

pub is_full-requires : goal.is_full-requires
is_full-requires g c = subst (λ (n : ℕ). n ≤ 2 ^ 26) (sym c.n.ensures) (pow_mono c.requires.table)
