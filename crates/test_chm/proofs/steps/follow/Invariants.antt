use Rattle.std.proofs.Common.{◌≡◌, All}
use Rattle.test_chm.proofs.steps.follow.Given as goal

abbrev pub invariant-loop-line : goal.invariant-loop-line
invariant-loop-line g l = All (λ p. p.ledger ≡ l.map.ledger.id) l.passes.items
