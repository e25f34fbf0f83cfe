use Rattle.std.proofs.Common.{◌≡◌}
use Rattle.test_chm.proofs.maps.put_and_get.Given as goal

abbrev pub invariant-loop-number : goal.invariant-loop-number
invariant-loop-number g l = l.pass.ledger ≡ l.map.ledger.id
