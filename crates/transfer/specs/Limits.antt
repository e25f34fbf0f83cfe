-- How many bins a move has at most, how many a claim takes, and how many movers there are.
use Rattle.std.specs.Prelude.{ℕ}

-- 2^26: a move has no more bins than this
abbrev pub most_bins : ℕ
most_bins = 67108864

-- a claim takes so many bins, or what is left of the move
abbrev pub stride_bins : ℕ
stride_bins = 16

-- a move has so many movers
abbrev pub all_movers : ℕ
all_movers = 64

-- the opener's is one of them, and these are the others
abbrev pub spare_movers : ℕ
spare_movers = 63
