use Rattle.std.proofs.Common.{◌≡◌, ℕ, [], take, sum_by}
use Rattle.std.specs.Prelude.{All}
use Rattle.steal_pool.specs.Books.{weight_pushed_by, weight_taken_by}
use Rattle.steal_pool.specs.Shapes.{shapes, own_ways, AreCrew}
use Rattle.steal_pool.proofs.settle.give_all_back.Given as goal

abbrev pub invariant-loop-index : goal.invariant-loop-index
invariant-loop-index g l =
    record {
      empty : l.none.items ≡ [];
      crew : AreCrew [] (shapes l.members);
      none : All (λ ws. ws ≡ []) (take l.index (own_ways (shapes l.members)));
      pushed : (h : g.row.T.Denot → ℕ) → sum_by (weight_pushed_by h) l.members
          ≡ sum_by (weight_pushed_by h) l.fn.members;
      taken : (h : g.row.T.Denot → ℕ) → sum_by (weight_taken_by h) l.members ≡ sum_by (weight_taken_by h) l.fn.members;
    }
