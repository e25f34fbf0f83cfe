use Rattle.std.proofs.Common.{◌≡◌, ◌++◌, List, length, flat_map}
use Rattle.count_ledger.specs.Opening.{lists_of}
use Rattle.chm.specs.Reopened.{parts_by_class}
use Rattle.chm.proofs.closed.reopen.deal.Given as goal

abbrev pub invariant-loop-key : goal.invariant-loop-key
invariant-loop-key g l =
    (goal.iterator-loop-key g).can_next l.key-iterator
    × (goal.iterator-loop-key g).is_finite l.key-iterator
    × ((done : List (_ × _)) × (done ++ l.key-iterator ≡ l.fn.pairs)
    × (lists_of l.bases ≡ parts_by_class g.K.HashKey.code l.salt l.n done)
    × (length (flat_map (λ base. base) (lists_of l.bases)) ≡ length done))
