-- How much a map holds at most, and the widths of tables at which lean maps change how they grow.
use Rattle.std.specs.Prelude.{ℕ}

-- 2^32 - 1: a map is opened with no more pairs than this
abbrev pub most_pairs : ℕ
most_pairs = 4294967295

-- a recorded map is opened for no more bins than this
abbrev pub most_recorded_capacity : ℕ
most_recorded_capacity = 4096

-- a table of fewer bins is narrow
abbrev pub narrow_bins : ℕ
narrow_bins = 256

-- a table of so many bins is wide
abbrev pub wide_bins : ℕ
wide_bins = 1024

-- in a wide table a client looks once for so many keys that it adds
abbrev pub keys_per_look : ℕ
keys_per_look = 16

-- a lean bin of so many keys is crowded
abbrev pub crowded_keys : ℕ
crowded_keys = 8
