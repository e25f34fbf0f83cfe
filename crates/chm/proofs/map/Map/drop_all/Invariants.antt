use denote.Param.Always.{always_mut}
use Rattle.std.proofs.Common.{◌≡◌, length}
use Rattle.bin_history.specs.Calls.{after}
use Rattle.count_ledger.specs.Agreement.{BinAgrees}
use Rattle.chm.specs.Cleared.{HasRemoved}
use Rattle.chm.specs.Retained.{IsSettled}
use Rattle.chm.proofs.map.Map.drop_all.Given as goal

abbrev pub invariant-loop-place : goal.invariant-loop-place
invariant-loop-place g l =
    record {
      callable : always_mut g.G.FnMut l.keeps;
      settled : IsSettled (goal.G-step g) g.K.HashKey.code l.fn.self.ledger l.fn.class l.initial.keeps l.initial.pass
          l.keeps l.pass l.past l.bin.entries;
      removed : HasRemoved l.initial.pass l.pass;
      pass : l.pass.ledger ≡ l.fn.self.ledger.id;
      class : l.bin.class ≡ l.initial.bin.class;
      form : l.bin.form ≡ l.initial.bin.form;
      salt : l.bin.salt ≡ l.initial.bin.salt;
      ledger : l.role.ledger ≡ l.initial.role.ledger;
      agree : BinAgrees g.K.PartialEq.eq (after g.V.PartialEq.eq g.F.Remap.remapped g.F.Remap.merged) l.bin l.role;
    }

abbrev pub decreases-loop-place : goal.decreases-loop-place
decreases-loop-place g l = length l.bin.entries
