use Rattle.std.proofs.Common.{ap, subst}
use Rattle.std.specs.List.{AllZip}
use Rattle.bin_history.specs.Calls.{after}
use Rattle.count_ledger.specs.Fronts.{HasSeen}
use Rattle.count_ledger.specs.Views.{LedgerView}
use Rattle.chm.specs.Views.{MapView}
use Rattle.chm.proofs.map.Map.learn_all.Goals as goal

pub returns-clause-seen : goal.returns-clause-seen
returns-clause-seen g c =
    subst (λ (l : LedgerView _ _). AllZip (HasSeen g.K.PartialEq.eq
    (after g.V.PartialEq.eq g.F.Remap.remapped g.F.Remap.merged) l) c.args.passes.now c.learn_all.new.passes)
    (ap (λ (m : MapView _ _). m.ledger) c.self.view_is) c.learn_all.ensures.seen
