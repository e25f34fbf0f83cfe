use Rattle.std.proofs.Common.{◌≡◌, vec_len}
use Rattle.std.specs.Prelude.{All}
use Rattle.steal_pool.specs.Seating.{IsFresh}
use Rattle.steal_pool.proofs.pool.new_deques.Given as goal

abbrev pub invariant-loop-number : goal.invariant-loop-number
invariant-loop-number g l = (vec_len l.all ≡ l._number) × All IsFresh l.all.items
