use Rattle.std.proofs.Common.{sym, ap, ◌∙◌}
use Rattle.chm.specs.Closing.{NotClosedWithView}
use Rattle.clients.proofs.Passes.{unshared-again}
use Rattle.clients.proofs.unshared.refused.Goals as goal

pub invariant_of-unshared : goal.invariant_of-unshared
invariant_of-unshared g c =
    unshared-again c.args.not_closed.map c.args.not_closed.passes c.not_closed.inside.passes.items
    c.args.not_closed.roster c.not_closed.inside.roster c.in-Some.map
    (sym (ap (λ (e : NotClosedWithView _ _ _). e.map) c.not_closed.view_is) ∙ c.in-Some.is)
    (sym (ap (λ (e : NotClosedWithView _ _ _). e.passes) c.not_closed.view_is))
    (sym (ap (λ (e : NotClosedWithView _ _ _). e.roster) c.not_closed.view_is))
    c.requires.map c.requires.in_order c.requires.taken
