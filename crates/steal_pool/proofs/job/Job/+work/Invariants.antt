use Rattle.std.proofs.Common.{◌≡◌, ◌+◌, ◌-◌, ◌^◌, ◌<◌, ◌≤◌}
use Rattle.steal_pool.specs.Shapes.{shape}
use Rattle.steal_pool.proofs.job.Job.+work.Given as goal

abbrev pub decreases-work : goal.decreases-work
decreases-work g l = l.node.hi - l.node.lo

abbrev pub invariant-loop-batch : goal.invariant-loop-batch
invariant-loop-batch g l =
    record {
      tree : l.node.tree ≡ g.W.Work.tree;
      from : l.node.lo ≡ l.fn.node.lo;
      to : l.node.hi ≤ l.fn.node.hi;
      bins : l.node.hi ≤ g.W.Work.bins;
      batch : l.batch < 2 ^ l.node.level;
      slots : l.node.forks + l.node.level ≤ 7;
      shape : shape l.me ≡ shape l.fn.me;
    }

abbrev pub decreases-loop-batch : goal.decreases-loop-batch
decreases-loop-batch g l = l.batch
