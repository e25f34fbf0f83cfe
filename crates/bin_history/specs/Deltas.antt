-- How calls change the number of keys.
use Rattle.std.specs.Prelude.{ℤ, pos, negsuc, ◌+ℤ◌, Option, Some, None, List, [], ◌∷◌}
use Rattle.bin_history.specs.Records.{RecordView}

-- one more where the key had no value before, one less where it has none after, else nothing
abbrev pub change_of_count : {V : Type 0} → Option V → Option V → ℤ
change_of_count None (Some y) = pos 1
change_of_count (Some x) None = negsuc 0
change_of_count None None = pos 0
change_of_count (Some x) (Some y) = pos 0

abbrev pub delta : {K V F : Type 0} → RecordView K V F → ℤ
delta r = change_of_count r.before r.after

abbrev pub sum_of_deltas : {K V F : Type 0} → List (RecordView K V F) → ℤ
sum_of_deltas [] = pos 0
sum_of_deltas (r ∷ rs) = delta r +ℤ sum_of_deltas rs
