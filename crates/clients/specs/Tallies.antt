-- Counting how often keys are given, by merges of 1.
use Rattle.std.specs.Prelude.{◌≡◌, ℕ, zero, suc, ◌<◌, Bool, Option, Some, None, List, [], map, count_by, sum_by, length}
use Rattle.std.specs.Prelude.{All, slice_index_or}
use Rattle.bin_history.specs.Calls.{key_of}
use Rattle.bin_history.specs.Records.{RecordView}
use Rattle.bin_history.specs.declared.call.Call.TheVariants.{Merge}
use Rattle.count_ledger.specs.Views.{PassView}
use Rattle.functions.specs.declared.numbers.Add.{Add}

module _ {K : Type 0} where
  -- the call adds 1 to the count of its key
  abbrev pub AddsOne : RecordView K ℕ Add → Type 0
  AddsOne r = (f : Add) × (r.call ≡ Merge (key_of r.call) 1 f)

  -- each client added 1 for each key of its list, in order
  abbrev pub AllCounted : List (List K) → List (PassView K ℕ Add) → Type 0
  AllCounted lists passes =
      (c : ℕ) (p : PassView K ℕ Add) → c < length lists
      → ((slice_index_or passes c p).client ≡ c)
      × (map (λ r. key_of r.call) (slice_index_or passes c p).made ≡ slice_index_or lists c [])
      × All AddsOne (slice_index_or passes c p).made

module _ {K : Type 0} (same_key : K → K → Bool) where
  -- how often a key stands in a list, and in several
  abbrev pub times : K → List K → ℕ
  times k keys = count_by (λ x. same_key x k) keys

  abbrev pub times_in_all : K → List (List K) → ℕ
  times_in_all k lists = sum_by (times k) lists

-- a count, of which 0 is not told
abbrev pub stored_count : ℕ → Option ℕ
stored_count zero = None
stored_count (suc n) = Some (suc n)
