use Rattle.std.proofs.Common.{sym, subst}
use Rattle.chm.specs.declared.fault.Fault.{Fault}
use Rattle.clients.specs.Teams.{AreInOrder, TeamView}
use Rattle.clients.proofs.Kept.{IsBack, kept-team}
use Rattle.clients.proofs.team.Team.close.Goals as goal

pub with_team-requires-clause-in_order : goal.with_team-requires-clause-in_order
with_team-requires-clause-in_order g c =
    subst AreInOrder (sym c.in-Err.ensures.refused.passes_are) c.self.invariant.in_order

pub returns-in-Err-clause-kept : goal.returns-in-Err-clause-kept
returns-in-Err-clause-kept g c =
    let back = c.with_team.result.team in
    subst (λ (f : Fault). IsBack f back c.args.self) (sym c.with_team.ensures.fault)
    (subst (λ (t : TeamView _ _ _). IsBack c.in-Err.not_closed.fault back t) c.self.view_is
    (kept-team c.self.inside.map c.self.inside.passes.items c.in-Err.not_closed back
    c.in-Err.ensures.refused c.self.invariant.all c.with_team.ensures.some c.with_team.ensures.none))
