use Rattle.std.proofs.Common.{◌-◌, ◌≢◌, ℕ, ◌<◌, ◌≤◌, length, slice_index}
use Rattle.script.proofs.bytes.place_before.Given as goal

-- the byte stands nowhere so far
abbrev pub invariant-places : goal.invariant-places
invariant-places l = record { within : l.at ≤ length l.text; none : (k : ℕ) → k < l.at → slice_index l.text k ≢ l.byte }

abbrev pub decreases-places : goal.decreases-places
decreases-places l = l.end - l.at
