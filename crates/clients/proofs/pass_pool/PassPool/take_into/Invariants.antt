use Rattle.std.proofs.Common.{◌≡◌, All, length}
use Rattle.clients.specs.Teams.{AreInOrder}
use Rattle.clients.proofs.pass_pool.PassPool.take_into.Given as goal

abbrev pub invariant-loop-client : goal.invariant-loop-client
invariant-loop-client g l =
    record {
      own : All (λ p. p.ledger ≡ l.self.ledger.id) l.passes.items;
      in_order : AreInOrder l.passes.items;
      len : length l.passes.items ≡ l.client;
    }
