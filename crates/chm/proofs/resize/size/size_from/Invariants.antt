use Rattle.std.proofs.Common.{ℕ, ◌≤◌, ◌-◌}
use Rattle.hashkeys.specs.Classes.{IsTableSize}
use Rattle.chm.specs.Sizes.{IsWideEnough}
use Rattle.chm.proofs.resize.size.size_from.Given as goal

abbrev pub invariant-loop-n : goal.invariant-loop-n
invariant-loop-n l = IsTableSize l.n × (l.n0 ≤ l.n)
    × ((m : ℕ) → IsTableSize m → l.n0 ≤ m → IsWideEnough l.form l.count m → l.n ≤ m)

abbrev pub decreases-loop-n : goal.decreases-loop-n
decreases-loop-n l = 67108864 - l.n
