use Rattle.std.proofs.Common.{◌≡◌, All, sym, subst}
use Rattle.std.proofs.lemmas.List.Elements.{All-take}
use Rattle.count_ledger.specs.Views.{PassView}
use Rattle.test_maps.proofs.samples.take_pass.Goals as goal

pub returns-in-Some-clause-place : goal.returns-in-Some-clause-place
returns-in-Some-clause-place g c =
    let own = All-take (λ (p : PassView _ _ _). p.ledger ≡ c.args.opened.0.ledger.id) _ c.args.opened.1.items
    c.requires in
    subst (All (λ (p : PassView _ _ _). p.ledger ≡ c.args.opened.0.ledger.id)) (sym c.pop.ensures.rest) own
