use Rattle.std.proofs.Common.{◌≡◌, ◌≤◌, ◌++◌, vec_capacity}
use Rattle.std.specs.Vec.Iter.{drain_items}
use Rattle.bin_history.specs.Entries.{replay}
use Rattle.bin_history.proofs.fold.fold_front.Given as goal

abbrev pub invariant-loop-record : goal.invariant-loop-record
invariant-loop-record g l =
    (goal.iterator-loop-record g).can_next l.record-iterator
    × (goal.iterator-loop-record g).is_finite l.record-iterator
    × (l.base.items ≡ replay g.K.PartialEq.eq l.initial.base.items l.yielded)
    × (l.yielded ++ drain_items l.record-iterator ≡ drain_items l.initial.record-iterator)
    × (vec_capacity l.initial.base ≤ vec_capacity l.base)
