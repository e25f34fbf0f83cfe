use Rattle.std.proofs.Common.{List}
use Rattle.bin_history.specs.Calls.{after}
use Rattle.bin_history.proofs.Keys.{key_tells}
use Rattle.chm.specs.Visits.{VisitView}
use Rattle.clients.specs.Stats.{IsStats, lengths_of}
use Rattle.clients.proofs.Walked.{HasShown}
use Rattle.clients.proofs.stats.take_stats.Given as goal

-- the buckets so far have been counted
abbrev pub invariant-loop : goal.invariant-loop
invariant-loop g l =
    (visits : List (VisitView _ _))
    × HasShown g.K.PartialEq.eq (after g.V.PartialEq.eq g.F.Remap.remapped g.F.Remap.merged)
    (key_tells g.met.K.Eq.laws g.met.K.HashKey.equal_is_same) g.K.HashKey.code l.map l.initial.pass l.pass l.walk visits
    × IsStats (lengths_of visits) l.stats
