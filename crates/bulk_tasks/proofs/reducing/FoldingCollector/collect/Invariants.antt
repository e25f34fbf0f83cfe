-- No bin up to here has a pair.
use Rattle.std.proofs.Common.{◌≡◌, [], take}
use Rattle.chm.specs.Headline.{entries_of}
use Rattle.bulk_tasks.proofs.reducing.FoldingCollector.collect.Given as goal

abbrev pub invariant-loop-index : goal.invariant-loop-index
invariant-loop-index g l = entries_of (take l.index l.bins) ≡ []
