use Rattle.std.proofs.Common.{◌≡◌}
use Rattle.test_copies.proofs.lent.change_often.Given as goal

abbrev pub invariant-loop-row : goal.invariant-loop-row
invariant-loop-row g l = l.pass.ledger ≡ l.map.ledger.id
