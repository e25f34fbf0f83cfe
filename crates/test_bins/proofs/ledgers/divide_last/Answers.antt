use Rattle.std.proofs.Common.{◌≡◌, ap, ◌∙◌}
use Rattle.std.proofs.lemmas.List.Elements.{All-push, All-pop}
use Rattle.count_ledger.specs.Views.{RoleView}
use Rattle.test_bins.proofs.ledgers.divide_last.Goals as goal

pub returns : goal.returns
returns g c =
    let Own : RoleView _ _ _ → Type 0 = λ x. x.ledger ≡ c.args.ledger.now.id in
    let taken = All-pop Own _ _ _ c.pop.ensures.items c.requires in
    let own = rw c.expect-bin.ensures at taken.1 in
    let first = rw c.expect.ensures at c.push.ensures.items in
    let second = rw c.expect-2.ensures at c.push-2.ensures.items in
    let low = ap (λ (x : RoleView _ _ _). x.ledger) c.divide-low.ensures.low ∙ own in
    let high = ap (λ (x : RoleView _ _ _). x.ledger) c.divide-low.ensures.high ∙ own in
    rw second (All-push Own _ c.divide-low.result.1 (rw first (All-push Own _ c.divide-low.result.0 taken.0 low)) high)
