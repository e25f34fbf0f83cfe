use Rattle.std.proofs.Common.{◌≡◌, refl, arith}
use Rattle.std.proofs.lemmas.List.Elements.{All-map}
use Rattle.std.specs.List.{range_with_len}
use Rattle.count_ledger.specs.Opening.{new_pass}
use Rattle.test_bins.proofs.ledgers.the_largest_ledger_settles.Goals as goal

pub settled-total-requires-clause-passes : goal.settled-total-requires-clause-passes
settled-total-requires-clause-passes g c =
    let id = c.in_ok-ledger.ledger.id in
    rw c.in_ok-ledger.ensures.passes
    (All-map (λ p. p.ledger ≡ id) (new_pass id) (range_with_len 0 32) (λ k d inside. refl))

pub open_books-requires-clause-size : goal.open_books-requires-clause-size
open_books-requires-clause-size g c = (16, omega arith, refl)
