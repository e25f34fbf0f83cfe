-- The parts up to here are joined.
use Rattle.std.proofs.Common.{◌≡◌, ◌⊎◌, List, length}
use Rattle.std.specs.List.{AllZip}
use Rattle.std.specs.Vec.Iter.{into_iter_items, into_iter_len}
use Rattle.part_walks.specs.Joined.{HasEnd}
use Rattle.part_walks.proofs.JoinedParts.{IsJoined}
use Rattle.part_walks.proofs.joining.join_all.Given as goal

abbrev pub invariant-loop-part : goal.invariant-loop-part
invariant-loop-part g l =
    (goal.iterator-loop-part g).can_next l.part-iterator
    × (goal.iterator-loop-part g).is_finite l.part-iterator
    × ((into_iter_len l.part-iterator ≡ length (into_iter_items l.part-iterator))
    × ((ess : List (List (g.row.K.Denot × g.row.V.Denot))) → AllZip (g.S.Taker.reached l.fn.stepper) ess l.fn.parts.items →
    IsJoined (g.S.Taker.reached l.fn.stepper) ess (into_iter_items l.part-iterator) l.joined)
    × (HasEnd (g.S.Stepper.ends l.fn.stepper) l.fn.parts.items →
    HasEnd (g.S.Stepper.ends l.fn.stepper) (into_iter_items l.part-iterator) ⊎ g.S.Stepper.ends l.fn.stepper l.joined))
