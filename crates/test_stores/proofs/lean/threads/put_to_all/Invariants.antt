use Rattle.std.proofs.Common.{◌≡◌}
use Rattle.test_stores.proofs.lean.threads.put_to_all.Given as goal

abbrev pub invariant-loop-round : goal.invariant-loop-round
invariant-loop-round g l = l.pass.ledger ≡ l.ledger.id

abbrev pub invariant-loop-text : goal.invariant-loop-text
invariant-loop-text g l = l.pass.ledger ≡ l.ledger.id
