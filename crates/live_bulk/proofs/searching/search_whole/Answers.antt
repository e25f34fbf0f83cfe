use Rattle.std.proofs.Common.{IsTrue, false}
use Rattle.bin_history.specs.Calls.{after}
use Rattle.live_bulk.proofs.Sought.{sought-something, sought-nothing}
use Rattle.live_bulk.proofs.searching.search_whole.Goals as goal

pub returns-in-Found-clause-sought : goal.returns-in-Found-clause-sought
returns-in-Found-clause-sought g c =
    sought-something g.K.PartialEq.eq g.K.HashKey.code (after g.V.PartialEq.eq g.F.Remap.remapped g.F.Remap.merged)
    (g.P.Probe.probed c.args.probe.now)
    c.args.map.now.ledger g.P.Probe.never_refuses (IsTrue false) c.args.passes.now.items
    c.search_once.new.passes.items c.in-Found.u (rw c.in-Found.is at c.in_ok-part.ensures.gathered)

pub returns-in-Nothing-clause-sought : goal.returns-in-Nothing-clause-sought
returns-in-Nothing-clause-sought g c =
    sought-nothing g.K.PartialEq.eq g.K.HashKey.code (after g.V.PartialEq.eq g.F.Remap.remapped g.F.Remap.merged)
    (g.P.Probe.probed c.args.probe.now)
    c.args.map.now.ledger g.P.Probe.never_refuses (IsTrue false) c.args.passes.now.items
    c.search_once.new.passes.items (rw c.in-Nothing.is at c.in_ok-part.ensures.gathered)
