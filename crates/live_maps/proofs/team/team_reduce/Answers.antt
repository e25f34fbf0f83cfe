use Rattle.live_maps.proofs.Clients.{some-client}
use Rattle.live_maps.proofs.InOrder.{AreInOrder-same}
use Rattle.live_maps.proofs.team.team_reduce.Goals as goal

pub live_reduce-reduced-requires-clause-own : goal.live_reduce-reduced-requires-clause-own
live_reduce-reduced-requires-clause-own g c κs within =
    rw (← c.into_parts-map.ensures.map) at (rw (← c.into_parts-map.ensures.passes) at c.into_parts-map.ensures.own)

pub of-requires-clause-in_order : goal.of-requires-clause-in_order
of-requires-clause-in_order g c =
    AreInOrder-same c.into_parts-map.result.1.items c.live_reduce-reduced.new.passes.items c.live_reduce-reduced.ensures.len
    c.live_reduce-reduced.ensures.clients (rw (← c.into_parts-map.ensures.passes) at c.into_parts-map.ensures.in_order)

pub returns-clause-fold : goal.returns-clause-fold
returns-clause-fold g c =
    rw (← c.of.ensures.passes) at (rw c.into_parts-map.ensures.passes at (rw c.into_parts-map.ensures.map at
    c.live_reduce-reduced.ensures.fold))

pub returns-clause-no_client : goal.returns-clause-no_client
returns-clause-no_client g c = λ fails.
    some-client c.into_parts-map.result.1.items c.args.team.passes c.clients-clients.result c.args.team.map.ledger.clients _
    c.clients-clients.ensures.range (rw c.into_parts-map.ensures.map at c.clients-clients.ensures.value)
    c.into_parts-map.ensures.all c.into_parts-map.ensures.passes (c.live_reduce-reduced.ensures.no_client fails)

pub returns-clause-too_many : goal.returns-clause-too_many
returns-clause-too_many g c = λ fails.
    rw (← c.of.ensures.passes) at (rw c.into_parts-map.ensures.passes at (rw c.into_parts-map.ensures.map at
    (c.live_reduce-reduced.ensures.too_many fails)))
