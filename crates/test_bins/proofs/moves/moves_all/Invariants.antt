use Rattle.std.proofs.Common.{◌≡◌, ◌-◌, length}
use Rattle.test_bins.proofs.moves.moves_all.Given as goal

abbrev pub invariant-loop-range : goal.invariant-loop-range
invariant-loop-range l = l.mover.strides ≡ l.strides

abbrev pub decreases-loop-range : goal.decreases-loop-range
decreases-loop-range l = l.strides.bins - length l.mover.claimed
