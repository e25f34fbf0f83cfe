-- The pairs of the bins up to here are joined on, within the bound of as many more.
use Rattle.std.proofs.Common.{◌≡◌, ℕ, ◌+◌, length, take}
use Rattle.chm.specs.Headline.{entries_of}
use Rattle.bulk_tasks.specs.Folds.{fold_from}
use Rattle.bulk_tasks.proofs.reducing.fold_bins_onto.Given as goal

abbrev pub invariant-loop-bin : goal.invariant-loop-bin
invariant-loop-bin g l =
    (l.folded ≡ fold_from (g.R.Reducer.lifted l.reducer) (g.R.Reducer.joined l.reducer) l.fn.first
    (entries_of (take l.bin-index l.bins)))
    × ((n : ℕ) → g.R.Reducer.within l.reducer n l.fn.first →
    g.R.Reducer.within l.reducer (n + length (entries_of (take l.bin-index l.bins))) l.folded)
