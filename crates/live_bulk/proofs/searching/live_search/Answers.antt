use Rattle.std.proofs.Common.{IsTrue, true}
use Rattle.bin_history.specs.Calls.{after}
use Rattle.live_bulk.proofs.Seen.{clients-later, none-later, seen-later}
use Rattle.live_bulk.proofs.Sought.{found-something, found-nothing, found-later-ok}
use Rattle.live_bulk.proofs.searching.live_search.Goals as goal

pub returns-in-Found-clause-found : goal.returns-in-Found-clause-found
returns-in-Found-clause-found g c =
    found-something g.K.PartialEq.eq g.K.HashKey.code (after g.V.PartialEq.eq g.F.Remap.remapped g.F.Remap.merged)
    (g.P.Probe.probed c.args.probe.now)
    c.args.map.now.ledger g.P.Probe.never_refuses (IsTrue true) c.args.passes.now.items
    c.search_once.new.passes.items c.in-Found.u (rw c.in-Found.is at c.in_ok-part.ensures.gathered)

pub returns-in-Nothing-clause-found : goal.returns-in-Nothing-clause-found
returns-in-Nothing-clause-found g c =
    found-nothing g.K.PartialEq.eq g.K.HashKey.code (after g.V.PartialEq.eq g.F.Remap.remapped g.F.Remap.merged)
    (g.P.Probe.probed c.args.probe.now)
    c.args.map.now.ledger g.P.Probe.never_refuses (IsTrue true) c.args.passes.now.items
    c.search_once.new.passes.items (rw c.in-Nothing.is at c.in_ok-part.ensures.gathered)

pub returns-in-GaveUp-clause-found : goal.returns-in-GaveUp-clause-found
returns-in-GaveUp-clause-found g c =
    found-later-ok g.K.PartialEq.eq g.K.HashKey.code (after g.V.PartialEq.eq g.F.Remap.remapped g.F.Remap.merged)
    (g.P.Probe.probed c.args.probe.now)
    c.args.map.now.ledger g.P.Probe.never_refuses (IsTrue true) c.args.passes.now.items
    c.search_once.new.passes.items c.in_ok-part.part c.search_whole.new.passes.items c.search_whole.result
    c.in_ok-part.ensures.gathered c.search_whole.ensures.sought

pub returns-in-GaveUp-clause-clients : goal.returns-in-GaveUp-clause-clients
returns-in-GaveUp-clause-clients g c =
    clients-later c.args.passes.now.items c.search_once.new.passes.items c.search_whole.new.passes.items
    c.in_ok-part.ensures.len c.in_ok-part.ensures.clients c.search_whole.ensures.clients

pub returns-in-GaveUp-clause-seen : goal.returns-in-GaveUp-clause-seen
returns-in-GaveUp-clause-seen g c =
    seen-later c.args.passes.now.items c.search_once.new.passes.items c.search_whole.new.passes.items
    c.in_ok-part.ensures.seen c.search_whole.ensures.seen

pub returns-in-GaveUp-clause-no_client : goal.returns-in-GaveUp-clause-no_client
returns-in-GaveUp-clause-no_client g c is =
    none-later c.args.passes.now.items c.search_once.new.passes.items c.in_ok-part.ensures.len (c.search_whole.ensures.no_client is)
