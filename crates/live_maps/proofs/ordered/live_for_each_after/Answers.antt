use Rattle.std.proofs.Common.{List}
use Rattle.bin_history.specs.Calls.{after}
use Rattle.count_ledger.specs.Views.{PassView}
use Rattle.live_bulk.specs.Shared.{IsActed}
use Rattle.live_maps.specs.Moments.{AreBetween}
use Rattle.live_maps.proofs.Ended.{between-passes}
use Rattle.live_maps.proofs.ordered.live_for_each_after.Goals as goal

pub returns-clause-answers : goal.returns-clause-answers
returns-clause-answers g c =
    between-passes (λ (olds news : List (PassView g.row.K.Denot g.row.V.Denot g.row.F.Denot)).
    AreBetween c.args.moment.now.seen olds news c.bring_all.new.moment.seen)
    (λ (olds news : List (PassView g.row.K.Denot g.row.V.Denot g.row.F.Denot)) list. IsActed
    g.K.PartialEq.eq g.K.HashKey.code (after g.V.PartialEq.eq g.F.Remap.remapped g.F.Remap.merged)
    (g.X.Action.acted c.args.action.now) c.args.map.now.ledger olds news list.items)
    c.in_ok-passes.passes.items c.live_for_each-list.new.passes.items c.live_for_each-list.result
    (record { told = c.in_ok-passes.ensures.told; heard = c.bring_all.ensures.heard })
    (rw c.map-2.ensures at c.live_for_each-list.ensures.answers)
