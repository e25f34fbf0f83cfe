use Rattle.chm.proofs.Giving.{give_map}
use Rattle.chm.proofs.map.Map.put_as.Goals as goal

pub returns : goal.returns
returns g c =
    give_map g.K.PartialEq.eq g.V.PartialEq.eq g.F.Remap.remapped g.F.Remap.merged _ _ c.args.self.now.ledger
    (g.Q.AsKey.stands_for c.args.query) _ c.args.pass.now c.give.new.pass (λ before r said. said.1) c.give.result
    c.give.ensures
