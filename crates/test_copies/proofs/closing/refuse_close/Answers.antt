use Rattle.std.proofs.Common.{◌≡◌, sym, subst, ap, All}
use Rattle.std.specs.Prelude.{IfErr}
use Rattle.count_ledger.specs.Views.{PassView}
use Rattle.chm.specs.Closing.{IsNotClosed}
use Rattle.chm.specs.Views.{MapView}
use Rattle.test_copies.proofs.Returned.{came_back}
use Rattle.test_copies.proofs.closing.refuse_close.Goals as goal

pub returns-clause-id : goal.returns-clause-id
returns-clause-id g c =
    let shown = subst (λ r. IfErr r (IsNotClosed c.args.map c.args.passes.items))
    (sym c.map.view_is) c.close.ensures.refused in
    let refused = rw c.in-Err.is at shown in
    ap (λ (m : MapView _ _). m.ledger.id)
    (came_back c.args.map c.args.passes.items _ c.expect.result refused c.expect.ensures)

pub returns-clause-own : goal.returns-clause-own
returns-clause-own g c =
    let shown = subst (λ r. IfErr r (IsNotClosed c.args.map c.args.passes.items))
    (sym c.map.view_is) c.close.ensures.refused in
    let refused = rw c.in-Err.is at shown in
    let same = came_back c.args.map c.args.passes.items _ c.expect.result refused c.expect.ensures in
    let own = subst (All (λ (p : PassView _ _ _). p.ledger ≡ c.args.map.ledger.id))
    (sym refused.passes_are) c.requires in
    subst (λ (m : MapView _ _). All (λ (p : PassView _ _ _). p.ledger ≡ m.ledger.id) c.in-Err.field-0.passes.items)
    (sym same) own
