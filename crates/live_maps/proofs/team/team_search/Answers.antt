use Rattle.live_maps.proofs.Clients.{some-client}
use Rattle.live_maps.proofs.InOrder.{AreInOrder-same}
use Rattle.live_maps.proofs.team.team_search.Goals as goal

pub live_search-found-requires-clause-own : goal.live_search-found-requires-clause-own
live_search-found-requires-clause-own g c κs within =
    rw (← c.into_parts-map.ensures.map) at (rw (← c.into_parts-map.ensures.passes) at c.into_parts-map.ensures.own)

pub of-requires-clause-in_order : goal.of-requires-clause-in_order
of-requires-clause-in_order g c =
    AreInOrder-same c.into_parts-map.result.1.items c.live_search-found.new.passes.items c.live_search-found.ensures.len
    c.live_search-found.ensures.clients (rw (← c.into_parts-map.ensures.passes) at c.into_parts-map.ensures.in_order)

pub returns-clause-found : goal.returns-clause-found
returns-clause-found g c =
    rw (← c.of.ensures.passes) at (rw c.into_parts-map.ensures.passes at (rw c.into_parts-map.ensures.map at
    c.live_search-found.ensures.found))

pub returns-clause-no_client : goal.returns-clause-no_client
returns-clause-no_client g c = λ fails.
    some-client c.into_parts-map.result.1.items c.args.team.passes c.clients-clients.result c.args.team.map.ledger.clients _
    c.clients-clients.ensures.range (rw c.into_parts-map.ensures.map at c.clients-clients.ensures.value)
    c.into_parts-map.ensures.all c.into_parts-map.ensures.passes (c.live_search-found.ensures.no_client fails)
