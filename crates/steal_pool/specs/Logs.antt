-- What each port of a deque has pushed and taken.
use Rattle.std.specs.Prelude.{◌≡◌, ℕ, ◌+◌, List, [], ◌∷◌}
use mathlib.Core.Option.{some}
use lib.ListN.{get_elem?}
use Rattle.steal_pool.specs.Limits.{all_shares}
use Rattle.steal_pool.specs.declared.log.Log.{Log}

module _ {T : Type 0} where
  abbrev pub log : ℕ → List T → List T → Log T
  log shares pushed taken = record { shares = shares; pushed = pushed; taken = taken }

  -- the weights of the tasks, added up
  abbrev pub weigh : (T → ℕ) → List T → ℕ
  weigh h [] = 0
  weigh h (x ∷ xs) = h x + weigh h xs

  -- f of each view, added up
  abbrev pub total : (Log T → ℕ) → List (Log T) → ℕ
  total f [] = 0
  total f (v ∷ vs) = f v + total f vs

  -- a port with no share has pushed and taken nothing
  abbrev pub IdleIsEmpty : List (Log T) → Type 0
  IdleIsEmpty views = (port : ℕ) (v : Log T) → get_elem? views port ≡ some v → v.shares ≡ 0 →
      (v.pushed ≡ []) × (v.taken ≡ [])

  -- What was pushed is what was taken and what the deque holds, however the tasks are weighed.
  abbrev pub Balanced : List T → List (Log T) → Type 0
  Balanced items views =
      (total (λ v. v.shares) views ≡ all_shares)
      × ((h : T → ℕ) → total (λ v. weigh h v.pushed) views ≡ total (λ v. weigh h v.taken) views + weigh h items)
      × IdleIsEmpty views
