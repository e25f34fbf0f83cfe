-- The parts that are left begin where those before have ended.
use Rattle.std.proofs.Common.{◌≤◌, length, slice_range}
use Rattle.chm.specs.Headline.{entries_of}
use Rattle.completers.specs.Parts.{AreParts}
use Rattle.bulk_tasks.proofs.collector.CollectingBody.join.Given as goal

abbrev pub invariant-loop-next : goal.invariant-loop-next
invariant-loop-next g l = (l.lo ≤ l.whole.hi)
    × AreParts (λ a b part. g.C.Collector.collected l.self.collector.now
    (entries_of (slice_range l.self.bins.now a b)) part) l.whole.hi l.hi l.parts
    × g.C.Collector.collected l.self.collector.now
    (entries_of (slice_range l.self.bins.now l.lo l.whole.hi)) l.whole.part

abbrev pub decreases-loop-next : goal.decreases-loop-next
decreases-loop-next g l = length l.parts
