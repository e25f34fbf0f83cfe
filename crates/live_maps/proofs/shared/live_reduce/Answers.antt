use Rattle.std.proofs.Common.{List}
use Rattle.bin_history.specs.Calls.{after}
use Rattle.count_ledger.specs.Views.{PassView}
use Rattle.live_bulk.specs.Shared.{IsReduced}
use Rattle.live_maps.specs.Moments.{AreBetween}
use Rattle.live_maps.proofs.Ended.{some-passes}
use Rattle.live_maps.proofs.shared.live_reduce.Goals as goal

pub returns-clause-fold : goal.returns-clause-fold
returns-clause-fold g c =
    some-passes (λ (olds news : List (PassView g.row.K.Denot g.row.V.Denot g.row.F.Denot)).
    AreBetween c.in_ok-moment.moment.seen olds news c.live_reduce_after.new.moment.seen)
    (λ (olds news : List (PassView g.row.K.Denot g.row.V.Denot g.row.F.Denot)). IsReduced
    g.K.PartialEq.eq g.K.HashKey.code (after g.V.PartialEq.eq g.F.Remap.remapped g.F.Remap.merged)
    (g.T.Reducer.lifted c.args.reducer.now) (g.T.Reducer.joined c.args.reducer.now) c.args.map.now.ledger olds news)
    c.live_reduce_after.result c.live_reduce_after.ensures.fold

pub returns-clause-too_many : goal.returns-clause-too_many
returns-clause-too_many g c = λ fails.
    let (olds, news, between, shown) = c.live_reduce_after.ensures.too_many fails in (olds, news, shown)
