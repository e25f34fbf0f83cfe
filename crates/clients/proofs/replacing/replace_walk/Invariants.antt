use Rattle.std.proofs.Common.{◌≡◌, ◌≤◌, List, length}
use Rattle.chm.specs.Cursors.{HasCome}
use Rattle.chm.specs.Visits.{VisitView}
use Rattle.clients.specs.Replaced.{AreReplacedIn}
use Rattle.clients.proofs.replacing.replace_walk.Given as goal

-- the values at the keys of the buckets so far are changed
abbrev pub invariant-loop : goal.invariant-loop
invariant-loop g l =
    record {
      callable : goal.G-IsAlwaysCallable g l.left;
      ledger : l.pass.ledger ≡ l.initial.pass.ledger;
      client : l.pass.client ≡ l.initial.pass.client;
      count : l.replaced ≤ length l.pass.made;
      are : (visits : List (VisitView _ _)) × HasCome l.cursor visits
          × AreReplacedIn (goal.G-step g) g.K.PartialEq.eq g.K.HashKey.code g.V.PartialEq.eq g.F.Remap.remapped
          g.F.Remap.merged l.map.ledger visits (l.fn.f, 0) l.initial.pass (l.left, l.replaced) l.pass;
    }
