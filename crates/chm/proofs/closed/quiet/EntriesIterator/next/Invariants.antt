use Rattle.std.proofs.Common.{◌≡◌, ◌++◌, length}
use Rattle.chm.specs.Headline.{entries_of}
use Rattle.chm.proofs.closed.quiet.EntriesIterator.next.Given as goal

abbrev pub invariant-loop-entry : goal.invariant-loop-entry
invariant-loop-entry g l = l.self-inside.own ++ entries_of l.self-inside.bins.now ≡ l.initial.self-inside.own
    ++ entries_of l.initial.self-inside.bins.now

abbrev pub decreases-loop-entry : goal.decreases-loop-entry
decreases-loop-entry g l = length l.self-inside.bins.now
