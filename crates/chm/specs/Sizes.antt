-- How many bins a table has.
use Rattle.std.specs.Prelude.{ℕ, ◌+◌, ◌-◌, ◌/◌, ◌<◌, ◌≤◌, ◌⊎◌, cond, nat_lt}
use Rattle.std.specs.Int.{div_ceil}
use Rattle.hashkeys.specs.Classes.{IsTableSize}
use Rattle.hashkeys.specs.Limits.{most_bins}
use Rattle.bin_history.specs.Limits.{most_recorded_bins}
use Rattle.bin_history.specs.declared.form.Form.{Form}
use Rattle.bin_history.specs.declared.form.Form.TheVariants.{Recorded, Lean}
use Rattle.chm.specs.Limits.{narrow_bins}

-- the least table of at least this capacity
pub record IsSizeFor (capacity n : ℕ) : Type 0 where
  pub size : IsTableSize n
  pub enough : capacity ≤ n
  pub least : (m : ℕ) → IsTableSize m → capacity ≤ m → n ≤ m

-- how many bins a table of the form has at most
abbrev pub most_bins_of : Form → ℕ
most_bins_of Recorded = most_recorded_bins
most_bins_of Lean = most_bins

-- the number of keys from which on a table of n bins of the form is too small: in a recorded map three quarters of n,
-- rounded up; in a lean one a quarter of n, rounded up, where the table is narrow, and else three
-- halves
abbrev pub threshold : Form → ℕ → ℕ
threshold Recorded n = n - n / 4
threshold Lean n = cond (nat_lt n narrow_bins) (div_ceil n 4) (n + n / 2)

-- a table of n bins of the form has room for this many keys, or there is no wider one
abbrev pub IsWideEnough : Form → ℕ → ℕ → Type 0
IsWideEnough form count n = (count < threshold form n) ⊎ (most_bins_of form ≤ n)

-- the least table from n0 bins on that has room
pub record IsSizeFrom (form : Form) (n0 count n : ℕ) : Type 0 where
  pub size : IsTableSize n
  pub from : n0 ≤ n
  pub room : IsWideEnough form count n
  pub least : (m : ℕ) → IsTableSize m → n0 ≤ m → IsWideEnough form count m → n ≤ m
