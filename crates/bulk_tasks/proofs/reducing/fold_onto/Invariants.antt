-- The pairs up to here are joined on, within the bound of as many more.
use Rattle.std.proofs.Common.{◌≡◌, ℕ, ◌+◌, ◌++◌, List, length}
use Rattle.bulk_tasks.specs.Folds.{fold_from}
use Rattle.bulk_tasks.proofs.reducing.fold_onto.Given as goal

abbrev pub invariant-loop-key : goal.invariant-loop-key
invariant-loop-key g l =
    (goal.iterator-loop-key g).can_next l.key-iterator
    × (goal.iterator-loop-key g).is_finite l.key-iterator
    × ((done : List (g.row.K.Denot × g.row.V.Denot)) × (done ++ l.key-iterator ≡ l.fn.walk)
    × (l.folded ≡ fold_from (g.R.Reducer.lifted l.reducer) (g.R.Reducer.joined l.reducer) l.fn.first done)
    × ((n : ℕ) → g.R.Reducer.within l.reducer n l.fn.first → g.R.Reducer.within l.reducer (n + length done) l.folded))
