use Rattle.std.proofs.Common.{◌≡◌, false, List}
use Rattle.std.specs.List.{list_any}
use Rattle.bin_history.specs.Calls.{after}
use Rattle.bin_history.proofs.Keys.{key_tells}
use Rattle.chm.specs.Visits.{VisitView, shown_by}
use Rattle.clients.proofs.Walked.{HasShown}
use Rattle.clients.proofs.finding.find_value.Given as goal

-- the value is in none of the buckets so far
abbrev pub invariant-loop : goal.invariant-loop
invariant-loop g l =
    (visits : List (VisitView _ _))
    × HasShown g.K.PartialEq.eq (after g.V.PartialEq.eq g.F.Remap.remapped g.F.Remap.merged)
    (key_tells g.met.K.Eq.laws g.met.K.HashKey.equal_is_same) g.K.HashKey.code l.map l.initial.pass l.pass l.walk visits
    × (list_any (λ e. g.V.PartialEq.eq e.1 l.value) (shown_by visits) ≡ false)
