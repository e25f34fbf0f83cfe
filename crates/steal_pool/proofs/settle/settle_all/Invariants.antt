use Rattle.std.proofs.Common.{◌≡◌, ℕ, ◌+◌, ◌*◌, ◌^◌, ◌≤◌, List, length, sum_by, vec_len}
use Rattle.std.specs.Prelude.{All}
use Rattle.steal_pool.specs.Books.{weight_pushed_by, weight_taken_by}
use Rattle.steal_pool.specs.Shapes.{IsHome}
use Rattle.steal_pool.specs.Logs.{weigh}
use Rattle.steal_pool.proofs.settle.settle_all.Given as goal

abbrev pub invariant-loop-member : goal.invariant-loop-member
invariant-loop-member g l =
    record {
      home : All IsHome l.members.items;
      small : l.left + 2 ^ 64 * vec_len l.members ≤ 2 ^ 64 * vec_len l.fn.members;
      books : (rest : List g.row.T.Denot) × (length rest ≡ l.left)
          × ((h : g.row.T.Denot → ℕ) → sum_by (weight_pushed_by h) l.fn.members.items + sum_by
          (weight_taken_by h) l.members.items ≡ sum_by
          (weight_pushed_by h) l.members.items + sum_by (weight_taken_by h) l.fn.members.items + weigh h rest);
    }

abbrev pub decreases-loop-member : goal.decreases-loop-member
decreases-loop-member g l = vec_len l.members
