use Rattle.std.proofs.Common.{◌≡◌, vec_len, vec_capacity, All}
use Rattle.test_bins.proofs.ledgers.make_all.Given as goal

abbrev pub invariant-loop-row : goal.invariant-loop-row
invariant-loop-row g l =
    record {
      passes : All (λ p. p.ledger ≡ l.ledger.id) l.passes.items;
      roles : All (λ r. r.ledger ≡ l.ledger.id) l.bins.items;
      pass_len : vec_len l.passes ≡ vec_len l.initial.passes;
      pass_capacity : vec_capacity l.passes ≡ vec_capacity l.initial.passes;
      bin_len : vec_len l.bins ≡ vec_len l.initial.bins;
      bin_capacity : vec_capacity l.bins ≡ vec_capacity l.initial.bins;
    }
