use Rattle.std.proofs.Common.{◌≡◌}
use Rattle.test_chm.proofs.updating.fill.Given as goal

abbrev pub invariant-loop-number : goal.invariant-loop-number
invariant-loop-number g l = l.pass.ledger ≡ l.map.ledger.id
