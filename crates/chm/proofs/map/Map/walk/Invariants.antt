use Rattle.std.proofs.Common.{◌≡◌}
use Rattle.bin_history.specs.Calls.{after}
use Rattle.chm.specs.Cursors.{HasCome}
use Rattle.chm.specs.Visits.{AreVisited}
use Rattle.chm.proofs.map.Map.walk.Given as goal

abbrev pub invariant-loop : goal.invariant-loop
invariant-loop g l =
    record {
      come : HasCome l.cursor l.visits.items;
      visited : AreVisited g.K.PartialEq.eq g.K.HashKey.code
          (after g.V.PartialEq.eq g.F.Remap.remapped g.F.Remap.merged)
          l.self.ledger l.initial.pass l.visits.items l.pass;
      n : l.cursor.n ≡ l.self.n;
      ledger : l.pass.ledger ≡ l.self.ledger.id;
    }
