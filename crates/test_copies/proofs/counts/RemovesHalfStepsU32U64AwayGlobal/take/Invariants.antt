use Rattle.std.proofs.Common.{◌≡◌}
use Rattle.test_copies.proofs.counts.RemovesHalfStepsU32U64AwayGlobal.take.Given as goal

abbrev pub invariant-loop-number : goal.invariant-loop-number
invariant-loop-number g l = l.pass.ledger ≡ l.map.ledger.id
