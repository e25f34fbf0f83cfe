use Rattle.std.proofs.Common.{◌≡◌, All}
use Rattle.clients.proofs.shared.SharedMap.return_passes.Given as goal

abbrev pub invariant-loop-pass : goal.invariant-loop-pass
invariant-loop-pass g l = All (λ p. p.ledger ≡ l.self.ledger.id) l.passes.items

abbrev pub decreases-loop-pass : goal.decreases-loop-pass
decreases-loop-pass g l = goal.left-loop-pass g l
