use Rattle.std.proofs.Common.{◌≡◌}
use Rattle.steal_pool.specs.Shapes.{shape}
use Rattle.steal_pool.proofs.job.JobLaborMemberTaskPartSupplyPartPart.help.Given as goal

abbrev pub invariant-loop : goal.invariant-loop
invariant-loop g l =
    (goal.iterator-loop g).can_next l.iterator' × (goal.iterator-loop g).is_finite l.iterator'
    × (shape l.me ≡ shape l.fn.me)
