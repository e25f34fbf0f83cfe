use Rattle.std.proofs.Common.{◌≡◌}
use Rattle.test_copies.proofs.room.get_often.Given as goal

abbrev pub invariant-loop-time : goal.invariant-loop-time
invariant-loop-time g l = l.pass.ledger ≡ l.map.ledger.id
