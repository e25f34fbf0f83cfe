use Rattle.std.proofs.Common.{List}
use Rattle.bin_history.specs.Calls.{after}
use Rattle.count_ledger.specs.Views.{PassView}
use Rattle.live_bulk.specs.Shared.{IsActed}
use Rattle.live_maps.specs.Moments.{AreBetween}
use Rattle.live_maps.proofs.Ended.{some-passes}
use Rattle.live_maps.proofs.shared.live_for_each.Goals as goal

pub returns-clause-answers : goal.returns-clause-answers
returns-clause-answers g c =
    some-passes (λ (olds news : List (PassView g.row.K.Denot g.row.V.Denot g.row.F.Denot)).
    AreBetween c.in_ok-moment.moment.seen olds news c.live_for_each_after.new.moment.seen)
    (λ (olds news : List (PassView g.row.K.Denot g.row.V.Denot g.row.F.Denot)) list. IsActed
    g.K.PartialEq.eq g.K.HashKey.code (after g.V.PartialEq.eq g.F.Remap.remapped g.F.Remap.merged)
    (g.X.Action.acted c.args.action.now) c.args.map.now.ledger olds news list.items)
    c.live_for_each_after.result c.live_for_each_after.ensures.answers
