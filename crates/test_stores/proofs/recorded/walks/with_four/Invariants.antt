use Rattle.std.proofs.Common.{◌≡◌}
use Rattle.test_stores.proofs.recorded.walks.with_four.Given as goal

abbrev pub invariant-loop-text : goal.invariant-loop-text
invariant-loop-text g l = l.pass.ledger ≡ l.ledger.id
