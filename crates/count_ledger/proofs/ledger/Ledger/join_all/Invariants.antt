use Rattle.std.proofs.Common.{◌≡◌, ◌≤◌, map, vec_len, vec_capacity}
use Rattle.std.specs.List.{range_with_len}
use Rattle.count_ledger.specs.Opening.{new_pass}
use Rattle.count_ledger.proofs.ledger.Ledger.join_all.Given as goal

abbrev pub invariant-loop-client : goal.invariant-loop-client
invariant-loop-client g l =
    record {
      passes : l.passes.items ≡ map (new_pass l.self.id) (range_with_len 0 l._client);
      room : l.clients ≤ vec_capacity l.passes;
      len : vec_len l.passes ≡ l._client;
      roster : l.roster ≡ record { ledger = l.self.id; next = l._client; clients = l.clients };
    }
