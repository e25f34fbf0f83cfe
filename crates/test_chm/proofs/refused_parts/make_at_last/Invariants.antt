use Rattle.std.proofs.Common.{◌≡◌}
use Rattle.test_chm.proofs.refused_parts.make_at_last.Given as goal

abbrev pub invariant-loop-granted : goal.invariant-loop-granted
invariant-loop-granted g l = l.pass.ledger ≡ l.map.ledger.id
