use Rattle.std.proofs.Common.{◌≡◌}
use Rattle.test_pool.proofs.closed.put_all.Given as goal

abbrev pub invariant-loop-key : goal.invariant-loop-key
invariant-loop-key g l =
    (goal.iterator-loop-key g).can_next l.key-iterator ×
    (goal.iterator-loop-key g).is_finite l.key-iterator × (l.pass.ledger ≡ l.map.ledger.id) × (l.pass.ledger ≡ l.initial.pass.ledger)
