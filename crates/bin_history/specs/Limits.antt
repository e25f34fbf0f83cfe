-- How many clients a map has at most, how many calls each of them makes, how many bins a recorded map has, and how many
-- records a bin of it stores.
use Rattle.std.specs.Prelude.{ℕ, ◌/◌}
use Rattle.bin_history.specs.declared.form.Form.{Form}
use Rattle.bin_history.specs.declared.form.Form.TheVariants.{Recorded, Lean}

abbrev pub most_recorded_clients : ℕ
most_recorded_clients = 32

-- a client's number is below this in a map of either form
abbrev pub most_lean_clients : ℕ
most_lean_clients = 65536

abbrev pub most_clients : Form → ℕ
most_clients Recorded = most_recorded_clients
most_clients Lean = most_lean_clients

-- a client of a recorded map makes a million calls at most
abbrev pub most_recorded_calls : ℕ
most_recorded_calls = 1000000

-- the clients of a lean map have shares of 2^62 calls, so that their deltas add up to no more than 2^62
abbrev pub most_lean_calls : ℕ
most_lean_calls = 4611686018427387904

-- the most calls of each of so many clients
abbrev pub most_calls : Form → ℕ → ℕ
most_calls Recorded clients = most_recorded_calls
most_calls Lean clients = most_lean_calls / clients

-- 2^16: the greatest of the sizes that the table of a recorded map may have
abbrev pub most_recorded_bins : ℕ
most_recorded_bins = 65536

-- a recorded bin stores so many records at most
abbrev pub most_records : ℕ
most_records = 1024

-- and of so many it folds this many, the oldest, into its base
abbrev pub folded_records : ℕ
folded_records = 512
