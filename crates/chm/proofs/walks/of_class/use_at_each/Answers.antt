use Rattle.std.proofs.Common.{List, refl, sym, subst, of_calls}
use Rattle.std.specs.List.{FoldsTo}
use Rattle.chm.specs.Cursors.{IsUsedAt}
use Rattle.chm.proofs.walks.of_class.use_at_each.Goals as goal

pub loop-entry-preserved : goal.loop-entry-preserved
loop-entry-preserved g c =
    let (can, fold) = c.loop-entry.invariant in (
      search of_calls,
      λ last folds. fold last
          (subst (λ (es : List _). FoldsTo (IsUsedAt (goal.G-step g)) c.loop-entry.f es last)
          (sym c.in-Some.ensures.steps)
          (c.f.new.self, (_, _, refl, refl, c.f.ensures), folds)),
    )
