-- The ranges of a move of n bins: from 0 to 16, from 16 to 32, and so on, the last cut at n.
use Rattle.std.specs.Prelude.{◌≡◌, ℕ, zero, suc, ◌+◌, ◌*◌, ◌-◌, ◌%◌, ◌<◌, ◌≤◌, min, nat_lt, if◌then◌else◌, List, []}
use Rattle.std.specs.Prelude.{◌∷◌, ◌++◌}
use Rattle.transfer.specs.Limits.{stride_bins}
use Rattle.transfer.specs.declared.range.Range.{Range}

-- the range that begins at a bin: 16 bins, or what is left of n
abbrev pub range_from : ℕ → ℕ → Range
range_from n lo = record { lo = lo; hi = min (lo + stride_bins) n }

-- the first k ranges in order, or all of them where there are fewer
abbrev pub ranges : ℕ → ℕ → List Range
ranges n zero = []
ranges n (suc k) = if nat_lt (stride_bins * k) n then ranges n k ++ range_from n (stride_bins * k) ∷ [] else ranges n k

-- a range of a move of n bins
pub record IsRangeOf (n : ℕ) (r : Range) : Type 0 where
  pub aligned : r.lo % stride_bins ≡ 0
  pub below : r.lo < n
  pub cut : r.hi ≡ min (r.lo + stride_bins) n

-- how many bins a range holds
abbrev pub width : Range → ℕ
width r = r.hi - r.lo

-- a range holds a bin
abbrev pub HasBin : ℕ → Range → Type 0
HasBin bin r = (r.lo ≤ bin) × (bin < r.hi)
