use Rattle.std.proofs.Common.{◌≡◌, ℕ, List, ◌++◌, take}
use Rattle.chm.specs.Headline.{entries_of}
use Rattle.mapcli_core.specs.Texts.{AnswersAll}
use Rattle.mapcli_core.proofs.answers.push_answers.Given as goal

abbrev pub invariant-loop-query : goal.invariant-loop-query
invariant-loop-query g l = (answers : List ℕ) × AnswersAll (entries_of l.quiet.bins)
    (take l.query-index l.queries) answers
    × (l.text.items ≡ l.initial.text.items ++ answers)
