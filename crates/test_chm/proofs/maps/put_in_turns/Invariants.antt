use Rattle.std.proofs.Common.{◌≡◌, All}
use Rattle.test_chm.proofs.maps.put_in_turns.Given as goal

abbrev pub invariant-loop-turn : goal.invariant-loop-turn
invariant-loop-turn g l = All (λ p. p.ledger ≡ l.map.ledger.id) l.passes.items

abbrev pub invariant-loop-client : goal.invariant-loop-client
invariant-loop-client g l = All (λ p. p.ledger ≡ l.map.ledger.id) l.passes.items
