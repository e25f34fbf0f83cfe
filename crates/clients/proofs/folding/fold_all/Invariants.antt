use Rattle.std.proofs.Common.{◌≡◌, List}
use Rattle.std.specs.List.{FoldsTo}
use Rattle.bin_history.specs.Calls.{after}
use Rattle.chm.specs.Cursors.{HasCome}
use Rattle.chm.specs.Visits.{AreVisited, VisitView, shown_by}
use Rattle.clients.specs.Folds.{turn}
use Rattle.clients.proofs.folding.fold_all.Given as goal

-- the function went over the entries of the buckets so far
abbrev pub invariant-loop : goal.invariant-loop
invariant-loop g l =
    record {
      can : goal.G-IsAlwaysCallable g l.left;
      shown : (visits : List (VisitView _ _)) × HasCome l.cursor visits
          × AreVisited g.K.PartialEq.eq g.K.HashKey.code
          (after g.V.PartialEq.eq g.F.Remap.remapped g.F.Remap.merged) l.map.ledger l.initial.pass visits l.pass
          × FoldsTo (turn (goal.G-step g)) (l.fn.f, l.fn.init) (shown_by visits) (l.left, l.total);
      ledger : l.pass.ledger ≡ l.map.ledger.id;
    }
