use Rattle.std.proofs.Common.{◌≡◌, ◌≤◌, ℕ, None, nat_eq}
use Rattle.bin_history.specs.Entries.{lookup, HasDistinctKeys}
use Rattle.test_bins.proofs.chains.numbered.Given as goal

abbrev pub invariant-loop-number : goal.invariant-loop-number
invariant-loop-number l =
    record {
      distinct : HasDistinctKeys nat_eq l.list.items;
      new : (k : ℕ) → l.number ≤ k → lookup nat_eq l.list.items k ≡ None;
    }
