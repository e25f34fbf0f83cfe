use Rattle.std.proofs.Common.{◌≡◌}
use Rattle.std.proofs.lemmas.List.Elements.{All-push}
use Rattle.count_ledger.specs.Views.{RoleView}
use Rattle.test_bins.proofs.ledgers.put_bin.Goals as goal

pub returns : goal.returns
returns g c =
    let Own : RoleView _ _ _ → Type 0 = λ x. x.ledger ≡ c.args.ledger.now.id in
    let pushed = rw c.expect.ensures at c.push.ensures.items in
    rw pushed (All-push Own _ c.args.bin c.requires.others c.requires.bin)
