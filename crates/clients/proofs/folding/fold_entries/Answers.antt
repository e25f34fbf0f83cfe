use Rattle.std.proofs.Common.{◌++◌, List, sym, ap, ◌∙◌, append_assoc, of_calls}
use Rattle.std.proofs.lemmas.Fn.{FoldsTo-push}
use Rattle.clients.proofs.folding.fold_entries.Goals as goal

pub loop-entry-preserved : goal.loop-entry-preserved
loop-entry-preserved g c =
    let (can, folds, rest) = c.loop-entry.invariant in (
      search of_calls,
      FoldsTo-push _ _ c.loop-entry.yielded _ c.in-Some.entry _ folds c.f-total.ensures,
      append_assoc c.loop-entry.yielded _ _
          ∙ ap (λ (es : List _). c.loop-entry.yielded ++ es) (sym c.in-Some.ensures.steps.0) ∙ rest,
    )
