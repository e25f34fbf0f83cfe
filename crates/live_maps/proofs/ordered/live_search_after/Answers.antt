use Rattle.std.proofs.Common.{List}
use Rattle.bin_history.specs.Calls.{after}
use Rattle.count_ledger.specs.Views.{PassView}
use Rattle.live_bulk.specs.Shared.{IsFound}
use Rattle.live_maps.specs.Moments.{AreBetween}
use Rattle.live_maps.proofs.Ended.{between-passes}
use Rattle.live_maps.proofs.ordered.live_search_after.Goals as goal

pub returns-clause-found : goal.returns-clause-found
returns-clause-found g c =
    between-passes (λ (olds news : List (PassView g.row.K.Denot g.row.V.Denot g.row.F.Denot)).
    AreBetween c.args.moment.now.seen olds news c.bring_all.new.moment.seen)
    (λ (olds news : List (PassView g.row.K.Denot g.row.V.Denot g.row.F.Denot)). IsFound
    g.K.PartialEq.eq g.K.HashKey.code (after g.V.PartialEq.eq g.F.Remap.remapped g.F.Remap.merged)
    (g.P.Probe.probed c.args.probe.now) c.args.map.now.ledger olds news)
    c.in_ok-passes.passes.items c.live_search-found.new.passes.items c.live_search-found.result
    (record { told = c.in_ok-passes.ensures.told; heard = c.bring_all.ensures.heard })
    (rw c.map-2.ensures at c.live_search-found.ensures.found)
