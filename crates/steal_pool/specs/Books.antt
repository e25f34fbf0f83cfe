-- What a member has pushed and taken, however the tasks are weighed.
use Rattle.std.specs.Prelude.{◌≡◌, ℕ, ◌+◌, List, length, sum_by, Option, Some, None, Result, Ok, Err}
use Rattle.crossbeam_deque.specs.Handles.{worker_view}
use Rattle.steal_pool.specs.declared.member.Member.{Member}
use Rattle.steal_pool.specs.declared.finished.Tasks.{Tasks}
use Rattle.steal_pool.specs.Logs.{weigh}
use Rattle.steal_pool.specs.Ways.{weight_stolen}

module _ {T A S : Type 0} {g : _} where
  abbrev pub weight_pushed_by : (T → ℕ) → Member T A S g → ℕ
  weight_pushed_by h m = weigh h (worker_view m.own).pushed

  abbrev pub weight_taken_by : (T → ℕ) → Member T A S g → ℕ
  weight_taken_by h m = weigh h (worker_view m.own).taken + weight_stolen h m.ways.items

  -- what the members pushed is what they took and some tasks that are left, so many, each task as often
  abbrev pub IsSettled : List (Member T A S g) → ℕ → Type 0
  IsSettled ms n = (left : List T) × (length left ≡ n)
      × ((h : T → ℕ) → sum_by (weight_pushed_by h) ms ≡ sum_by (weight_taken_by h) ms + weigh h left)

  -- so many tasks the members pushed and took
  abbrev pub AreCounted : List (Member T A S g) → Tasks → Type 0
  AreCounted ms t = (t.pushed ≡ sum_by (weight_pushed_by (λ _. 1)) ms) × (t.taken ≡ sum_by (weight_taken_by (λ _. 1)) ms)

-- each task that was pushed was taken
abbrev pub AreSettled : Tasks → Type 0
AreSettled t = t.taken ≡ t.pushed

module _ {T : Type 0} where
  -- the weight of what a call brought
  abbrev pub weight_brought : (T → ℕ) → Option T → ℕ
  weight_brought h None = 0
  weight_brought h (Some x) = h x

  -- the weight of what a push put in
  abbrev pub weight_put : {E : Type 0} → (T → ℕ) → T → Result E T → ℕ
  weight_put h x (Ok u) = h x
  weight_put h x (Err e) = 0
