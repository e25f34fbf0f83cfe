use Rattle.std.proofs.Common.{List}
use Rattle.bin_history.specs.Calls.{after}
use Rattle.count_ledger.specs.Views.{PassView}
use Rattle.live_bulk.specs.Shared.{IsReduced}
use Rattle.live_maps.specs.Moments.{AreBetween}
use Rattle.live_maps.proofs.Ended.{between-passes}
use Rattle.live_maps.proofs.ordered.live_reduce_after.Goals as goal

pub returns-clause-fold : goal.returns-clause-fold
returns-clause-fold g c =
    between-passes (λ (olds news : List (PassView g.row.K.Denot g.row.V.Denot g.row.F.Denot)).
    AreBetween c.args.moment.now.seen olds news c.bring_all.new.moment.seen)
    (λ (olds news : List (PassView g.row.K.Denot g.row.V.Denot g.row.F.Denot)). IsReduced
    g.K.PartialEq.eq g.K.HashKey.code (after g.V.PartialEq.eq g.F.Remap.remapped g.F.Remap.merged)
    (g.T.Reducer.lifted c.args.reducer.now) (g.T.Reducer.joined c.args.reducer.now) c.args.map.now.ledger olds news)
    c.in_ok-passes.passes.items c.live_reduce-reduced.new.passes.items c.live_reduce-reduced.result
    (record { told = c.in_ok-passes.ensures.told; heard = c.bring_all.ensures.heard })
    (rw c.map-2.ensures at c.live_reduce-reduced.ensures.fold)

pub returns-clause-too_many : goal.returns-clause-too_many
returns-clause-too_many g c = λ fails. (
  c.in_ok-passes.passes.items,
  c.live_reduce-reduced.new.passes.items,
  record { told = c.in_ok-passes.ensures.told; heard = c.bring_all.ensures.heard },
  rw c.map-2.ensures at (c.live_reduce-reduced.ensures.too_many fails),
)
