use Rattle.std.proofs.Common.{◌≡◌, take, drop, All}
use Rattle.std.specs.List.{AllZip}
use Rattle.bin_history.specs.Calls.{after}
use Rattle.count_ledger.specs.Fronts.{BeginsWith, HasSeen}
use Rattle.live_maps.proofs.moments.hear_each.Given as goal

abbrev pub invariant-loop-i : goal.invariant-loop-i
invariant-loop-i g l =
    record {
      moment : l.moment.ledger ≡ l.map.ledger.id;
      more : BeginsWith l.moment.seen l.initial.moment.seen;
      heard : All (λ p. BeginsWith l.moment.seen p.seen) (take l.i l.initial.passes);
      seen : AllZip (HasSeen g.K.PartialEq.eq (after g.V.PartialEq.eq g.F.Remap.remapped g.F.Remap.merged) l.map.ledger)
          (take l.i l.initial.passes) (take l.i l.passes);
      rest : drop l.i l.passes ≡ drop l.i l.initial.passes;
    }
