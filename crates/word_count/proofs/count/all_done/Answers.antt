use Rattle.std.proofs.Common.{◌++◌, List, IsOk, is_ok, sym, ap, ◌∙◌, append_assoc}
use Rattle.std.proofs.lemmas.List.Elements.{All-push}
use Rattle.word_count.proofs.count.all_done.Goals as goal

pub loop-answer-preserved : goal.loop-answer-preserved
loop-answer-preserved c =
    let (all, rest) = c.loop-answer.invariant in (
      All-push IsOk c.loop-answer.yielded c.in-Some.answer all (ap is_ok c.in_ok-answer.was),
      append_assoc c.loop-answer.yielded _ _
          ∙ ap (λ (cs : List _). c.loop-answer.yielded ++ cs) (sym c.in-Some.ensures.steps.0) ∙ rest,
    )
