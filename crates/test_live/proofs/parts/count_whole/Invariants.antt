use Rattle.std.proofs.Common.{◌≡◌}
use Rattle.test_live.proofs.parts.count_whole.Given as goal

abbrev pub invariant-loop-shares : goal.invariant-loop-shares
invariant-loop-shares g l = l.pass.ledger ≡ l.map.ledger.id
