use Rattle.std.proofs.Common.{◌≡◌, [], length, All}
use Rattle.test_bins.proofs.ledgers.empty_bases.Given as goal

abbrev pub invariant-loop-number : goal.invariant-loop-number
invariant-loop-number l =
    record {
      len : length l.bases.items ≡ l._number;
      empty : All (λ base. base.items ≡ []) l.bases.items;
    }
