use Rattle.std.proofs.Common.{◌≡◌}
use Rattle.steal_pool.specs.Shapes.{shape}
use Rattle.test_pool.proofs.settling.push_three.Given as goal

abbrev pub invariant-loop-task : goal.invariant-loop-task
invariant-loop-task g l = shape l.me ≡ shape l.fn.me
