-- How many workers a pool has at most, how far a range is divided, and how many shares a deque has.
use Rattle.std.specs.Prelude.{ℕ}

abbrev pub most_workers : ℕ
most_workers = 16

-- the batch of the whole range
abbrev pub most_batch : ℕ
most_batch = 64

-- one for each way into a deque that is out, and the others for its owner
abbrev pub all_shares : ℕ
all_shares = 32
