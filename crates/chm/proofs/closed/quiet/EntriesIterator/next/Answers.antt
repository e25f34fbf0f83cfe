use Rattle.std.proofs.Common.{List, ◌++◌, ap, sym, ◌∙◌}
use Rattle.chm.specs.Headline.{entries_of}
use Rattle.chm.proofs.closed.quiet.EntriesIterator.next.Goals as goal

pub loop-entry-preserved : goal.loop-entry-preserved
loop-entry-preserved g c =
    let left = c.in_ok-bin.bins.now in
    let before = c.loop-entry.self-inside.bins.now in
    ap (λ (own : List _). own ++ entries_of left) c.walk-self-inside.ensures
    ∙ ap entries_of (sym c.in_ok-bin.ensures.cases.0)
    ∙ ap (λ (own : List _). own ++ entries_of before) (sym c.in_default.ensures.steps.0)
    ∙ c.loop-entry.invariant
