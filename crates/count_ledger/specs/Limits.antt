-- How many clients a ledger has at most, how many calls a pass makes at most, and how many count words there are.
use Rattle.std.specs.Prelude.{ℕ}
pub use Rattle.bin_history.specs.Limits.{most_clients, most_calls, most_lean_clients, most_lean_calls}

-- the clients share so many count words, each in a lane
abbrev pub all_lanes : ℕ
all_lanes = 32

-- a cache line of eight words that is only read, and one for each lane
abbrev pub all_words : ℕ
all_words = 264
