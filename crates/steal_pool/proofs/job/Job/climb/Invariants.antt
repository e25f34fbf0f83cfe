use Rattle.std.proofs.Common.{◌≡◌}
use Rattle.completers.specs.Views.{depth}
use Rattle.steal_pool.proofs.job.Job.climb.Given as goal

abbrev pub invariant-loop-parts : goal.invariant-loop-parts
invariant-loop-parts g l = (l.ticket.tree ≡ g.W.Work.tree)
    × g.B.Relation.relates l.self.order.now.body.now l.ticket.lo l.ticket.hi l.part

abbrev pub decreases-loop-parts : goal.decreases-loop-parts
decreases-loop-parts g l = depth l.ticket
