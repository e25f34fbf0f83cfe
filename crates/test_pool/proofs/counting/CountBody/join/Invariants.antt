use Rattle.std.proofs.Common.{◌≡◌, ◌+◌, ◌≤◌, length}
use Rattle.completers.specs.Parts.{AreParts}
use Rattle.test_pool.proofs.counting.CountBody.join.Given as goal

abbrev pub invariant-loop-x : goal.invariant-loop-x
invariant-loop-x l = (l.initial.lo ≤ l.end) × AreParts (λ a b part. a + part ≡ b) l.end l.initial.hi l.parts

abbrev pub decreases-loop-x : goal.decreases-loop-x
decreases-loop-x l = length l.parts
