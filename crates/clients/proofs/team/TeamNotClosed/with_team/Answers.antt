use Rattle.std.proofs.Common.{sym, ap, ◌∙◌}
use Rattle.chm.specs.Closing.{NotClosedView}
use Rattle.clients.proofs.Passes.{team-again}
use Rattle.clients.proofs.team.TeamNotClosed.with_team.Goals as goal

pub invariant_of-team : goal.invariant_of-team
invariant_of-team g c =
    team-again c.args.refused.map c.args.refused.passes c.refused.inside.passes.items c.in-Some.map
    (sym (ap (λ (e : NotClosedView _ _ _). e.map) c.refused.view_is) ∙ c.in-Some.is)
    (sym (ap (λ (e : NotClosedView _ _ _). e.passes) c.refused.view_is))
    c.requires.own c.requires.all c.requires.in_order
