use Rattle.std.proofs.Common.{◌≡◌, ◌++◌, All, IsOk}
use Rattle.std.specs.Vec.Iter.{into_iter_items}
use Rattle.word_count.proofs.count.all_done.Given as goal

abbrev pub invariant-loop-answer : goal.invariant-loop-answer
invariant-loop-answer l = All IsOk l.yielded × (l.yielded ++ into_iter_items l.answer-iterator ≡ l.fn.answers.items)
