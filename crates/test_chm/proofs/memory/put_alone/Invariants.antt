use Rattle.std.proofs.Common.{◌≡◌}
use Rattle.test_chm.proofs.memory.put_alone.Given as goal

abbrev pub invariant-loop-time : goal.invariant-loop-time
invariant-loop-time g l = l.pass.ledger ≡ l.map.ledger.id
