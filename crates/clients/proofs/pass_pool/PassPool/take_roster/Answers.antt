use Rattle.std.proofs.Common.{ap, ◌∙◌}
use Rattle.chm.specs.Views.{MapView}
use Rattle.clients.proofs.Passes.{same_ledger}
use Rattle.clients.proofs.pass_pool.PassPool.take_roster.Goals as goal

pub returns-in-Some-clause-ledger : goal.returns-in-Some-clause-ledger
returns-in-Some-clause-ledger g c =
    same_ledger _ _ _ _ (c.in-Some.ensures ∙ c.self.invariant.roster_of)
    ∙ ap (λ (m : MapView _ _). m.ledger.id) c.self.view_is
