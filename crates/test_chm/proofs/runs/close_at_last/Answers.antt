use Rattle.std.proofs.Common.{◌≡◌, sym, subst, All}
use Rattle.std.specs.Prelude.{IfErr}
use Rattle.count_ledger.specs.Views.{PassView}
use Rattle.chm.specs.Closing.{IsNotClosed}
use Rattle.chm.specs.Views.{MapView}
use Rattle.test_chm.proofs.Returned.{came_back}
use Rattle.test_chm.proofs.runs.close_at_last.Goals as goal

-- what came back is the map that was to be closed, with its passes
pub close-requires : goal.close-requires
close-requires g c =
    let shown = subst (λ r. IfErr r (IsNotClosed c.args.map c.args.passes.items))
    (sym c.result.view_is) c.close-result.ensures.refused in
    let refused = rw c.in-Err.is at shown in
    let same = came_back _ _ _ c.expect-map.result refused c.expect-map.ensures in
    let own = subst (All (λ (p : PassView _ _ _). p.ledger ≡ c.args.map.ledger.id))
    (sym refused.passes_are) c.requires in
    subst (λ (m : MapView _ _). All (λ (p : PassView _ _ _). p.ledger ≡ m.ledger.id) c.in-Err.field-0.passes.items)
    (sym same) own
