use Rattle.std.proofs.Common.{◌≡◌}
use Rattle.std.proofs.lemmas.List.Elements.{All-pop}
use Rattle.count_ledger.specs.Views.{RoleView}
use Rattle.test_bins.proofs.ledgers.take_bin.Goals as goal

pub returns-clause-bin : goal.returns-clause-bin
returns-clause-bin g c =
    let Own : RoleView _ _ _ → Type 0 = λ x. x.ledger ≡ c.args.ledger.now.id in
    rw c.expect-bin.ensures at (All-pop Own _ _ _ c.pop.ensures.items c.requires).1

pub returns-clause-others : goal.returns-clause-others
returns-clause-others g c =
    let Own : RoleView _ _ _ → Type 0 = λ x. x.ledger ≡ c.args.ledger.now.id in
    (All-pop Own _ _ _ c.pop.ensures.items c.requires).0
