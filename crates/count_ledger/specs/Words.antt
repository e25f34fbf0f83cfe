-- Count words, and sums of deltas.
use Rattle.std.specs.Prelude.{◌≡◌, ℕ, ◌+◌, ◌*◌, ◌%◌, ◌^◌, ◌<◌, ◌==◌}
use Rattle.std.specs.Prelude.{ℤ, pos, ◌+ℤ◌, unsigned_abs, List, [], ◌∷◌, filter}
use Rattle.std.specs.Prelude.{slice_index}
use Rattle.std.specs.Int.{int_rem_euclid}
use Rattle.bin_history.specs.Deltas.{sum_of_deltas}
use Rattle.bin_history.specs.Records.{RecordView}
use Rattle.count_ledger.specs.Limits.{all_lanes}
use Rattle.count_ledger.specs.Views.{PassView, RoleView}

-- a whole number as a 64-bit two's complement number: its remainder by 2^64
abbrev pub word_of : ℤ → ℕ
word_of z = unsigned_abs (int_rem_euclid z (pos (2 ^ 64)))

-- the sum of a whole number for each member
abbrev pub total_of : {X : Type 0} → (X → ℤ) → List X → ℤ
total_of f [] = pos 0
total_of f (x ∷ xs) = f x +ℤ total_of f xs

module _ {K V F : Type 0} where
  -- the sum of the deltas of what all these clients made
  abbrev pub total_made : List (PassView K V F) → ℤ
  total_made passes = total_of (λ p. sum_of_deltas p.made) passes

  -- the sum of the deltas of what all these roles keep
  abbrev pub total_kept : List (RoleView K V F) → ℤ
  total_kept roles = total_of (λ r. sum_of_deltas r.kept) roles

-- client c counts in the lane c % 32
abbrev pub lane_of : ℕ → ℕ
lane_of client = client % all_lanes

module _ {K V F : Type 0} where
  -- the calls of the clients of a lane, in order
  abbrev pub of_lane : ℕ → List (RecordView K V F) → List (RecordView K V F)
  of_lane lane calls = filter (λ r. lane_of r.client == lane) calls

  -- each lane's word is the sum of the deltas of the calls of its clients
  abbrev pub AreCounted : List ℕ → List (RecordView K V F) → Type 0
  AreCounted words calls = (lane : ℕ) → lane < all_lanes →
      slice_index words (8 * (lane + 1)) ≡ word_of (sum_of_deltas (of_lane lane calls))
