use Rattle.std.proofs.Common.{◌≡◌, ◌+◌, ℕ, sum_by, vec_len}
use Rattle.steal_pool.specs.Books.{weight_pushed_by, weight_taken_by}
use Rattle.steal_pool.specs.Ways.{weight_stolen}
use Rattle.steal_pool.specs.Shapes.{shapes, targets, own_ways, AreCrew}
use Rattle.steal_pool.proofs.settle.give_back.Given as goal

abbrev pub invariant-loop-way : goal.invariant-loop-way
invariant-loop-way g l =
    record {
      crew : AreCrew (targets l.ways.items) (shapes l.members);
      ways : own_ways (shapes l.members) ≡ own_ways (shapes l.fn.members);
      pushed : (h : g.row.T.Denot → ℕ) → sum_by (weight_pushed_by h) l.members
          ≡ sum_by (weight_pushed_by h) l.fn.members;
      taken : (h : g.row.T.Denot → ℕ) → sum_by (weight_taken_by h) l.members + weight_stolen h l.ways.items
          ≡ sum_by (weight_taken_by h) l.fn.members
          + weight_stolen h l.fn.ways.items;
    }

abbrev pub decreases-loop-way : goal.decreases-loop-way
decreases-loop-way g l = vec_len l.ways
