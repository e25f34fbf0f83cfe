-- What was collected before has those of the class up to here more.
use Rattle.std.proofs.Common.{◌≡◌, ◌++◌, List}
use Rattle.hashkeys.specs.Classes.{is_of}
use Rattle.bin_history.specs.Part.{part_of_entries}
use Rattle.part_walks.proofs.taker.add_some.Given as goal

abbrev pub invariant-loop-key : goal.invariant-loop-key
invariant-loop-key g l =
    (goal.iterator-loop-key g).can_next l.key-iterator
    × (goal.iterator-loop-key g).is_finite l.key-iterator
    × ((done : List (g.row.K.Denot × g.row.V.Denot)) × (done ++ l.key-iterator ≡ l.fn.walk)
    × ((es : List (g.row.K.Denot × g.row.V.Denot)) → g.T.Taker.reached l.taker es l.initial.part
    → g.T.Taker.reached l.taker (es ++ part_of_entries (is_of g.K.HashKey.code l.fn.salt l.fn.class) done) l.part))
