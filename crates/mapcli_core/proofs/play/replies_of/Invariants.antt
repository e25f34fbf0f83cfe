use Rattle.std.proofs.Common.{◌≡◌, ◌+◌, ◌≤◌, ◌++◌, map, Ok, vec_len, vec_capacity}
use Rattle.std.specs.Vec.Iter.{into_iter_items, into_iter_len}
use Rattle.mapcli_core.proofs.play.replies_of.Given as goal

abbrev pub invariant-loop-answer : goal.invariant-loop-answer
invariant-loop-answer g l =
    (map Ok l.replies.items ≡ l.yielded)
    × (l.yielded ++ into_iter_items l.answer-iterator ≡ l.fn.answers.items)
    × (vec_len l.replies + into_iter_len l.answer-iterator ≤ vec_capacity l.replies)
