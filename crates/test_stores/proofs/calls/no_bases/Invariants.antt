use Rattle.std.proofs.Common.{◌≡◌, ◌≤◌, [], vec_len, vec_capacity, All}
use Rattle.test_stores.proofs.calls.no_bases.Given as goal

abbrev pub invariant-loop-index : goal.invariant-loop-index
invariant-loop-index g l =
    record {
      len : vec_len l.bases ≡ l._index;
      room : l.n ≤ vec_capacity l.bases;
      empty : All (λ base. base.items ≡ []) l.bases.items;
    }
