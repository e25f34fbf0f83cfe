use Rattle.std.proofs.Common.{◌≡◌}
use Rattle.test_chm.proofs.walking.empty_steps.Given as goal

abbrev pub invariant-loop-index : goal.invariant-loop-index
invariant-loop-index g l = l.pass.ledger ≡ l.map.ledger.id
