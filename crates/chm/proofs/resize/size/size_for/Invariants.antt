use Rattle.std.proofs.Common.{ℕ, ◌≤◌, ◌-◌}
use Rattle.hashkeys.specs.Classes.{IsTableSize}
use Rattle.chm.proofs.resize.size.size_for.Given as goal

abbrev pub invariant-loop-n : goal.invariant-loop-n
invariant-loop-n l = IsTableSize l.n × ((m : ℕ) → IsTableSize m → l.capacity ≤ m → l.n ≤ m)

abbrev pub decreases-loop-n : goal.decreases-loop-n
decreases-loop-n l = l.capacity - l.n
