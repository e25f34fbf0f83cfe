-- How much a range is halved.
use Rattle.std.specs.Prelude.{ℕ, ◌*◌, ◌/◌, ◌==◌, nat_lt, if◌then◌else◌, min, ◌||◌}

abbrev pub greatest_threshold : ℕ
greatest_threshold = 18446744073709551615

-- of so many entries, a threshold and workers: nothing for the greatest threshold, for
-- at most one entry, and for fewer entries than the threshold; else up to four tasks a
-- worker, but no more than there are thresholds in the entries
abbrev pub batch_of : ℕ → ℕ → ℕ → ℕ
batch_of count threshold workers =
    if ((threshold == greatest_threshold) || nat_lt count 2) || nat_lt count threshold then 0
    else (if threshold == 0 then 4 * workers else min (4 * workers) (count / threshold))
