use Rattle.live_maps.proofs.Clients.{some-client}
use Rattle.live_maps.proofs.InOrder.{AreInOrder-same}
use Rattle.live_maps.proofs.team.team_for_each.Goals as goal

pub live_for_each-list-requires-clause-own : goal.live_for_each-list-requires-clause-own
live_for_each-list-requires-clause-own g c κs within =
    rw (← c.into_parts-map.ensures.map) at (rw (← c.into_parts-map.ensures.passes) at c.into_parts-map.ensures.own)

pub of-requires-clause-in_order : goal.of-requires-clause-in_order
of-requires-clause-in_order g c =
    AreInOrder-same c.into_parts-map.result.1.items c.live_for_each-list.new.passes.items c.live_for_each-list.ensures.len
    c.live_for_each-list.ensures.clients (rw (← c.into_parts-map.ensures.passes) at c.into_parts-map.ensures.in_order)

pub returns-clause-answers : goal.returns-clause-answers
returns-clause-answers g c =
    rw (← c.of.ensures.passes) at (rw c.into_parts-map.ensures.passes at (rw c.into_parts-map.ensures.map at
    c.live_for_each-list.ensures.answers))

pub returns-clause-no_client : goal.returns-clause-no_client
returns-clause-no_client g c = λ fails.
    some-client c.into_parts-map.result.1.items c.args.team.passes c.clients-clients.result c.args.team.map.ledger.clients _
    c.clients-clients.ensures.range (rw c.into_parts-map.ensures.map at c.clients-clients.ensures.value)
    c.into_parts-map.ensures.all c.into_parts-map.ensures.passes (c.live_for_each-list.ensures.no_client fails)
