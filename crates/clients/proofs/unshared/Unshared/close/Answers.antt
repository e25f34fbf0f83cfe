use Rattle.std.proofs.Common.{◌≤◌, ℕ, List, ap, ◌∙◌, arith, None, sym, subst}
use Rattle.chm.specs.declared.fault.Fault.{Fault}
use Rattle.count_ledger.specs.Views.{PassView}
use Rattle.clients.specs.PassPools.{AreOfAll, UnsharedView}
use Rattle.clients.specs.Teams.{AreInOrder}
use Rattle.clients.proofs.AllPasses.{all-in-order}
use Rattle.clients.proofs.Kept.{IsBack, kept-unshared}
use Rattle.clients.proofs.unshared.Unshared.close.Goals as goal

pub refused-requires-clause-in_order : goal.refused-requires-clause-in_order
refused-requires-clause-in_order g c =
    subst AreInOrder (sym c.in-Err.ensures.refused.refused.passes_are) c.self.invariant.in_order

pub returns-in-Err-clause-kept : goal.returns-in-Err-clause-kept
returns-in-Err-clause-kept g c =
    let back = c.refused.result.unshared in
    subst (λ (f : Fault). IsBack f back c.args.self) (sym c.refused.ensures.fault)
    (subst (λ (u : UnsharedView _ _ _). IsBack c.in-Err.not_closed.fault back u) c.self.view_is
    (kept-unshared c.self.inside.map c.self.inside.roster None c.self.inside.passes.items c.in-Err.not_closed back
    c.in-Err.ensures.refused c.self.invariant.taken c.refused.ensures.some c.refused.ensures.none))

pub returns-in-Ok-clause-all : goal.returns-in-Ok-clause-all
returns-in-Ok-clause-all g c =
    let roster = c.self.inside.roster in
    let few = c.taken-taken.ensures.at_most in
    let is = c.taken-taken.ensures.value in
    let all = all-in-order _ _ _ roster c.self.inside.passes.items c.self.invariant.in_order c.self.invariant.taken
    (omega (arith, few, is)) in
    subst (λ (n : ℕ). AreOfAll n c.in-Ok.quiet.passes)
    (c.self.invariant.clients ∙ ap (λ (u : UnsharedView _ _ _). u.map.ledger.clients) c.self.view_is)
    (subst (λ (ps : List (PassView _ _ _)). AreOfAll roster.clients ps) (sym c.in-Ok.ensures.passes) all)
