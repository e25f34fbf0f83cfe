use Rattle.std.proofs.Common.{ap, sym, ◌∙◌}
use Rattle.chm.specs.Views.{MapView}
use Rattle.clients.proofs.shared.SharedMap.unshare.Goals as goal

pub of-requires-clause-own : goal.of-requires-clause-own
of-requires-clause-own g c =
    λ k d below. c.in-Ok.ensures.own k d below
    ∙ ap (λ (m : MapView _ _). m.ledger.id)
    (c.deref.ensures ∙ sym c.in-Ok-try_unwrap.ensures.ok ∙ sym c.into_map.ensures)
