-- What was collected before has the pairs up to here more.
use Rattle.std.proofs.Common.{◌≡◌, ◌++◌, List}
use Rattle.bulk_tasks.proofs.stepping.add_all.Given as goal

abbrev pub invariant-loop-key : goal.invariant-loop-key
invariant-loop-key g l =
    (goal.iterator-loop-key g).can_next l.key-iterator
    × (goal.iterator-loop-key g).is_finite l.key-iterator
    × ((done : List (g.row.K.Denot × g.row.V.Denot)) × (done ++ l.key-iterator ≡ l.fn.walk)
    × ((es : List (g.row.K.Denot × g.row.V.Denot)) → g.S.Stepper.reached l.stepper es l.initial.part
    → g.S.Stepper.reached l.stepper (es ++ done) l.part))
