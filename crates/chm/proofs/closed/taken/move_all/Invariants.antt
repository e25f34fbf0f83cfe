use Rattle.std.proofs.Common.{◌≡◌, ◌≤◌, ◌++◌, length, vec_capacity}
use Rattle.std.specs.Vec.Iter.{into_iter_items, into_iter_len}
use Rattle.chm.specs.Headline.{entries_of}
use Rattle.chm.proofs.closed.taken.move_all.Given as goal

abbrev pub invariant-loop-bin : goal.invariant-loop-bin
invariant-loop-bin g l =
    (goal.iterator-loop-bin g).can_next l.bin-iterator
    × (goal.iterator-loop-bin g).is_finite l.bin-iterator
    × ((l.room.items ++ entries_of (into_iter_items l.bin-iterator) ≡ entries_of l.fn.bins.items)
    × (into_iter_len l.bin-iterator ≡ length (into_iter_items l.bin-iterator))
    × (length (entries_of l.fn.bins.items) ≤ vec_capacity l.room))
