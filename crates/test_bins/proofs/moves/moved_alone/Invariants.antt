use Rattle.std.proofs.Common.{◌≡◌, ◌-◌, length}
use Rattle.test_bins.proofs.moves.moved_alone.Given as goal

abbrev pub invariant-loop-range : goal.invariant-loop-range
invariant-loop-range l = l.opener.strides ≡ l.strides

abbrev pub decreases-loop-range : goal.decreases-loop-range
decreases-loop-range l = l.strides.bins - length l.opener.claimed
