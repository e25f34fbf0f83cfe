-- Which deque is whose.
use Rattle.std.specs.Prelude.{◌≡◌, ℕ, zero, suc, List, [], ◌∷◌, Option, Some, None}
use Rattle.atomic_blocks.specs.Lent.{RowsId}
use mathlib.Core.Option.{some}
use lib.ListN.{get_elem?}
use Rattle.crossbeam_deque.specs.Handles.{worker_view}
use Rattle.crossbeam_deque.specs.declared.handles.Worker.{Worker}
use Rattle.steal_pool.specs.Limits.{all_shares}
use Rattle.steal_pool.specs.declared.log.Log.{Log}
use Rattle.steal_pool.specs.Logs.{log}

-- the deque at an index of a list
abbrev pub deque_at : {X A : Type 0} → (X → RowsId × A) → List X → ℕ → Option (RowsId × A)
deque_at of [] i = None
deque_at of (w ∷ ws) zero = Some (of w)
deque_at of (w ∷ ws) (suc i) = deque_at of ws i

-- each has the deque of its number, its index in the list
abbrev pub AreSeated : {X A : Type 0} → (X → RowsId × A) → (ℕ → Option (RowsId × A)) → List X → Type 0
AreSeated {X} of deque ws = (i : ℕ) (w : X) → get_elem? ws i ≡ some w → deque i ≡ Some (of w)

-- its owner has all shares, and nobody has pushed or taken
abbrev pub IsFresh : {T A P : Type 0} → Worker T A (Log T) P → Type 0
IsFresh w = worker_view w ≡ log all_shares [] []
