use Rattle.std.proofs.Common.{◌≡◌}
use Rattle.test_copies.proofs.lent.RoundsStepsTextTextAway.take.Given as goal

abbrev pub invariant-loop-round : goal.invariant-loop-round
invariant-loop-round g l = l.pass.ledger ≡ l.map.ledger.id
