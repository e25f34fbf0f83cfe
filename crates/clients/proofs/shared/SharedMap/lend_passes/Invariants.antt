use Rattle.std.proofs.Common.{◌≡◌, ◌≤◌, All, length, vec_capacity}
use Rattle.clients.proofs.shared.SharedMap.lend_passes.Given as goal

abbrev pub invariant-loop-pass : goal.invariant-loop-pass
invariant-loop-pass g l =
    record {
      own : All (λ p. p.ledger ≡ l.self.ledger.id) l.passes.items;
      len : length l.passes.items ≡ l._pass;
      room : l.wanted ≤ vec_capacity l.passes;
    }
