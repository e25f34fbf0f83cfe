use denote.Param.Always.{always_mut}
use Rattle.std.proofs.Common.{◌≡◌, length}
use Rattle.bin_history.specs.Calls.{after}
use Rattle.bin_layout.specs.Views.{place_of}
use Rattle.lean_bins.specs.BinSlot.{IsInSlot}
use Rattle.chm.specs.Cleared.{HasRemoved}
use Rattle.chm.specs.Retained.{IsSettled}
use Rattle.chm.specs.Views.{bins_of}
use Rattle.chm.proofs.map.Map.drop_all_in_place.Given as goal

abbrev pub invariant-loop-place : goal.invariant-loop-place
invariant-loop-place g l =
    record {
      callable : always_mut g.G.FnMut l.keeps;
      settled : IsSettled (goal.G-step g) g.K.HashKey.code l.fn.self.ledger l.fn.class l.initial.keeps l.initial.pass
          l.keeps l.pass l.past l.bin_slot.entries.entries;
      removed : HasRemoved l.initial.pass l.pass;
      ledger : l.pass.ledger ≡ l.fn.self.ledger.id;
      lies : IsInSlot g.K.PartialEq.eq (after g.V.PartialEq.eq g.F.Remap.remapped g.F.Remap.merged)
          (place_of (bins_of l.fn.self) l.fn.own) l.bin_slot;
    }

abbrev pub decreases-loop-place : goal.decreases-loop-place
decreases-loop-place g l = length l.bin_slot.entries.entries
