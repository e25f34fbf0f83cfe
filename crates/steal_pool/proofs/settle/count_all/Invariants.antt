-- The members up to here are counted.
use Rattle.std.proofs.Common.{◌≡◌, take, sum_by}
use Rattle.steal_pool.specs.Books.{weight_pushed_by, weight_taken_by}
use Rattle.steal_pool.proofs.settle.count_all.Given as goal

abbrev pub invariant-loop-member : goal.invariant-loop-member
invariant-loop-member g l =
    (l.pushed ≡ sum_by (weight_pushed_by (λ _. 1)) (take l.member-index l.members))
    × (l.taken ≡ sum_by (weight_taken_by (λ _. 1)) (take l.member-index l.members))
