use Rattle.chm.proofs.AtKey.{give_of, if_tried}
use Rattle.chm.proofs.map.Map.try_give.Goals as goal

pub returns-clause-made : goal.returns-clause-made
returns-clause-made g c =
    if_tried _ _ (give_of g.K.PartialEq.eq g.V.PartialEq.eq g.F.Remap.remapped g.F.Remap.merged c.args.self.now.ledger c.args.pass.now
    c.try_call_at_key.new.pass _ _ _) c.try_call_at_key.result c.try_call_at_key.ensures.made
