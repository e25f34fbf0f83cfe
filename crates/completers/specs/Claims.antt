-- The word of a search.
use Rattle.std.specs.Prelude.{ℕ, zero, suc, ◌<◌}
use Rattle.completers.specs.Limits.{most_indices}

-- 0, or 1 more than a small index at which something is found
abbrev pub IsClaimWord : (ℕ → Type 0) → ℕ → Type 0
IsClaimWord finds zero = Unit {0}
IsClaimWord finds (suc index) = (index < most_indices) × finds index
