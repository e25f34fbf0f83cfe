use Rattle.bin_history.specs.Calls.{after}
use Rattle.chm.specs.Visits.{IsVisit}
use Rattle.chm.proofs.Cursors.{AreShown-push}
use Rattle.chm.proofs.Stepping.{ok_is}
use Rattle.chm.proofs.map.Map.try_visit_next.Goals as goal

pub returns-in-Ok-clause-shown : goal.returns-in-Ok-clause-shown
returns-in-Ok-clause-shown g c = λ start shown are.
    AreShown-push g.K.PartialEq.eq g.K.HashKey.code (after g.V.PartialEq.eq g.F.Remap.remapped g.F.Remap.merged)
    c.args.self.now.ledger start c.args.pass.now c.try_visit_class.new.pass shown c.in-Ok.visit are
    c.in_ok-tried.ensures.seen
    (ok_is (IsVisit g.K.PartialEq.eq g.K.HashKey.code c.args.self.now.ledger c.try_visit_class.new.pass.seen)
    c.in_ok-tried.tried c.in-Ok.visit c.in-Ok.is c.in_ok-tried.ensures.visit)
