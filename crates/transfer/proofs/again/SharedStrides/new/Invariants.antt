use Rattle.std.proofs.Common.{◌≡◌, ◌≤◌, vec_len}
use Rattle.std.specs.Prelude.{All, vec_capacity}
use Rattle.transfer.proofs.again.SharedStrides.new.Given as goal

abbrev pub invariant-loop-client : goal.invariant-loop-client
invariant-loop-client g l =
    record {
      of : All (λ p. p.value.strides ≡ l.strides) l.places.items;
      len : vec_len l.places ≡ l._client;
      room : l.clients ≤ vec_capacity l.places;
    }
