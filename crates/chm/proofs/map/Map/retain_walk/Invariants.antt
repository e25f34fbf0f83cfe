use denote.Param.Always.{always_mut}
use Rattle.std.proofs.Common.{◌≡◌, List}
use Rattle.hashkeys.specs.Classes.{ClassView}
use Rattle.bin_history.specs.Calls.{after}
use Rattle.chm.specs.Cleared.{HasRemoved}
use Rattle.chm.specs.Cursors.{HasPassed}
use Rattle.chm.specs.Retained.{AreRetained}
use Rattle.chm.proofs.map.Map.retain_walk.Given as goal

abbrev pub invariant-loop : goal.invariant-loop
invariant-loop g l =
    record {
      callable : always_mut g.G.FnMut l.keeps;
      kept : (classes : List ClassView) × HasPassed l.cursor classes
          × AreRetained (goal.G-step g) g.K.PartialEq.eq g.K.HashKey.code
          (after g.V.PartialEq.eq g.F.Remap.remapped g.F.Remap.merged) l.self.ledger l.initial.keeps l.initial.pass
          classes l.keeps l.pass;
      removed : HasRemoved l.initial.pass l.pass;
      n : l.cursor.n ≡ l.fn.start.n;
      ledger : l.pass.ledger ≡ l.self.ledger.id;
    }
