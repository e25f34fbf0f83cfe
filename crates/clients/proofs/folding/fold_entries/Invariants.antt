use Rattle.std.proofs.Common.{◌≡◌, ◌++◌}
use Rattle.std.specs.List.{FoldsTo}
use Rattle.std.specs.Vec.Iter.{into_iter_items}
use Rattle.clients.specs.Folds.{turn}
use Rattle.clients.proofs.folding.fold_entries.Given as goal

-- the function went over the entries so far
abbrev pub invariant-loop-entry : goal.invariant-loop-entry
invariant-loop-entry g l =
    goal.G-IsAlwaysCallable g l.f
    × FoldsTo (turn (goal.G-step g)) (l.fn.f, l.fn.init) l.yielded (l.f, l.total)
    × (l.yielded ++ into_iter_items l.entry-iterator ≡ l.fn.entries.items)
