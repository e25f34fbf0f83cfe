use Rattle.std.proofs.Common.{◌≡◌, ◌-◌, length}
use Rattle.chm.proofs.map.Map.move_all_left.Given as goal

abbrev pub invariant-loop-range : goal.invariant-loop-range
invariant-loop-range g l = l.mover.strides ≡ l.resize.move_strides

abbrev pub decreases-loop-range : goal.decreases-loop-range
decreases-loop-range g l = l.resize.move_strides.bins - length l.mover.claimed
