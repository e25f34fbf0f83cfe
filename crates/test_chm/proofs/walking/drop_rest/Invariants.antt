use Rattle.std.proofs.Common.{◌≡◌}
use Rattle.test_chm.proofs.walking.drop_rest.Given as goal

abbrev pub invariant-loop : goal.invariant-loop
invariant-loop g l = l.pass.ledger ≡ l.map.ledger.id
