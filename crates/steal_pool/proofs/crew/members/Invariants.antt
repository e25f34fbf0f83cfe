use Rattle.std.proofs.Common.{◌≡◌, ◌+◌, ◌++◌, ◌≤◌, [], ℕ, vec_len}
use Rattle.std.specs.Prelude.{All}
use Rattle.crossbeam_deque.specs.Handles.{worker_deque}
use Rattle.steal_pool.specs.Limits.{most_workers}
use Rattle.steal_pool.specs.Seating.{AreSeated, IsFresh}
use Rattle.steal_pool.specs.Shapes.{AreCrew, countdown, weight_led, numbers, weight_out, shapes}
use Rattle.steal_pool.proofs.crew.members.Given as goal

abbrev pub invariant-loop-own : goal.invariant-loop-own
invariant-loop-own g l =
    record {
      count : vec_len l.all + vec_len l.deques ≡ l.workers;
      few : vec_len l.deques ≤ most_workers;
      shares : All IsFresh l.deques.items;
      seats : AreSeated worker_deque g.S.Seats.deque l.deques.items;
      numbered : numbers (shapes l.all.items) ++ countdown (vec_len l.deques) ≡ countdown l.workers;
      ways : (f : ℕ → ℕ) → (weight_led f (shapes l.all.items) ≡ 0) × (weight_out f (shapes l.all.items) ≡ 0);
    }

abbrev pub decreases-loop-own : goal.decreases-loop-own
decreases-loop-own g l = vec_len l.deques

abbrev pub invariant-loop-index : goal.invariant-loop-index
invariant-loop-index g l = (vec_len l.all ≡ l.workers) × AreCrew [] (shapes l.all.items)

abbrev pub invariant-loop-before : goal.invariant-loop-before
invariant-loop-before g l = (vec_len l.all ≡ l.workers) × AreCrew [] (shapes l.all.items)
