-- What the ways into other deques have brought, however the tasks are weighed.
use Rattle.std.specs.Prelude.{ℕ, List, sum_by}
use Rattle.crossbeam_deque.specs.Handles.{view}
use Rattle.steal_pool.specs.declared.way.Way.{Way}
use Rattle.steal_pool.specs.Logs.{weigh}

module _ {T A S : Type 0} {g : _} where
  abbrev pub weight_brought_by : (T → ℕ) → Way T A S g → ℕ
  weight_brought_by h w = weigh h (view w.pass).taken

  abbrev pub weight_stolen : (T → ℕ) → List (Way T A S g) → ℕ
  weight_stolen h ws = sum_by (weight_brought_by h) ws
