use Rattle.std.proofs.Common.{◌≡◌}
use Rattle.test_live.proofs.parts.fill_and_count.Given as goal

abbrev pub invariant-loop-key : goal.invariant-loop-key
invariant-loop-key g l = l.pass.ledger ≡ l.map.ledger.id
