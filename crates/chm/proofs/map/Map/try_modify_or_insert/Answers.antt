use Rattle.chm.proofs.Giving.{try_give_map}
use Rattle.chm.proofs.map.Map.try_modify_or_insert.Goals as goal

pub returns-clause-made : goal.returns-clause-made
returns-clause-made g c =
    try_give_map g.K.PartialEq.eq g.V.PartialEq.eq g.F.Remap.remapped g.F.Remap.merged _ _ c.args.self.now.ledger
    (g.Q.AsKey.stands_for c.args.key) _ c.args.pass.now c.try_give.new.pass (λ before r said. said.1) c.try_give.result
    c.try_give.ensures.made
