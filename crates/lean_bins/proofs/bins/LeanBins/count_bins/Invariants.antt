use Rattle.std.proofs.Common.{◌≡◌}
use Rattle.lean_bins.proofs.bins.LeanBins.count_bins.Given as goal

abbrev pub invariant-loop-before : goal.invariant-loop-before
invariant-loop-before g l = l.n ≡ l.self.n
