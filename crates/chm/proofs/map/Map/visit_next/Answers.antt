use Rattle.bin_history.specs.Calls.{after}
use Rattle.chm.proofs.Cursors.{AreShown-push}
use Rattle.chm.proofs.map.Map.visit_next.Goals as goal

pub returns-in_ok-visit_class-in-Some-clause-shown : goal.returns-in_ok-visit_class-in-Some-clause-shown
returns-in_ok-visit_class-in-Some-clause-shown g c = λ start shown are.
    AreShown-push g.K.PartialEq.eq g.K.HashKey.code (after g.V.PartialEq.eq g.F.Remap.remapped g.F.Remap.merged)
    c.args.self.now.ledger start c.args.pass.now c.visit_class.new.pass shown c.in_ok-visit_class-in-Some.field-0 are
    c.visit_class.ensures.seen c.in_ok-visit_class-in-Some.ensures.visit
