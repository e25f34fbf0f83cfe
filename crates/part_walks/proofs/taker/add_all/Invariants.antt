-- What was collected before has the entries up to here more.
use Rattle.std.proofs.Common.{◌≡◌, ◌++◌, List}
use Rattle.part_walks.proofs.taker.add_all.Given as goal

abbrev pub invariant-loop-key : goal.invariant-loop-key
invariant-loop-key g l =
    (goal.iterator-loop-key g).can_next l.key-iterator
    × (goal.iterator-loop-key g).is_finite l.key-iterator
    × ((done : List (g.row.K.Denot × g.row.V.Denot)) × (done ++ l.key-iterator ≡ l.fn.walk)
    × ((es : List (g.row.K.Denot × g.row.V.Denot)) → g.T.Taker.reached l.taker es l.initial.part
    → g.T.Taker.reached l.taker (es ++ done) l.part))
