use Rattle.std.proofs.Common.{List}
use Rattle.bin_history.specs.Calls.{after}
use Rattle.count_ledger.specs.Views.{PassView}
use Rattle.live_bulk.specs.Shared.{IsFound}
use Rattle.live_maps.specs.Moments.{AreBetween}
use Rattle.live_maps.proofs.Ended.{some-passes}
use Rattle.live_maps.proofs.shared.live_search.Goals as goal

pub returns-clause-found : goal.returns-clause-found
returns-clause-found g c =
    some-passes (λ (olds news : List (PassView g.row.K.Denot g.row.V.Denot g.row.F.Denot)).
    AreBetween c.in_ok-moment.moment.seen olds news c.live_search_after.new.moment.seen)
    (λ (olds news : List (PassView g.row.K.Denot g.row.V.Denot g.row.F.Denot)). IsFound
    g.K.PartialEq.eq g.K.HashKey.code (after g.V.PartialEq.eq g.F.Remap.remapped g.F.Remap.merged)
    (g.P.Probe.probed c.args.probe.now) c.args.map.now.ledger olds news)
    c.live_search_after.result c.live_search_after.ensures.found
