use Rattle.std.proofs.Common.{◌<◌}
use Rattle.hashkeys.specs.Limits.{most_bins}
use Rattle.lean_bins.specs.Homes.{IsIndexOf}
use Rattle.lean_bins.proofs.bins.LeanBins.find.Given as goal

abbrev pub invariant-loop-index : goal.invariant-loop-index
invariant-loop-index g l = record { below : l.index < most_bins; of_hash : IsIndexOf l.hash l.index }

abbrev pub decreases-loop-index : goal.decreases-loop-index
decreases-loop-index g l = l.index
