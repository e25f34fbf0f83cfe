use Rattle.std.proofs.Common.{ℕ, List, ◌++◌, ap, ◌∙◌, arith, append_assoc}
use Rattle.chm.specs.Headline.{entries_of}
use Rattle.std.proofs.lemmas.List.{take_more}
use Rattle.mapcli_core.proofs.Answered.{AnswersAll-push}
use Rattle.mapcli_core.proofs.answers.push_answers.Goals as goal

pub loop-query-preserved : goal.loop-query-preserved
loop-query-preserved g c =
    let (answers, all, text) = c.loop-query.invariant in
    let (answer, one, more) = c.in_ok-push_answer.ensures in
    let next = take_more c.args.queries.now c.loop-query.query-index _ (omega arith) in (
      answers ++ answer,
      rw next (AnswersAll-push (entries_of c.args.quiet.now.bins) _ _ answers answer all one),
      more ∙ ap (λ (t : List ℕ). t ++ answer) text ∙ append_assoc c.args.text.now.items answers answer,
    )
