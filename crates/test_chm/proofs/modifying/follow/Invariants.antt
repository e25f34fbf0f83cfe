use Rattle.std.proofs.Common.{◌≡◌}
use Rattle.test_chm.proofs.modifying.follow.Given as goal

abbrev pub invariant-loop-line : goal.invariant-loop-line
invariant-loop-line g l = l.pass.ledger ≡ l.map.ledger.id
