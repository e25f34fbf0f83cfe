use Rattle.chm.proofs.AtKey.{if_tried, modify_of}
use Rattle.chm.proofs.map.Map.try_modify.Goals as goal

pub returns-clause-modified : goal.returns-clause-modified
returns-clause-modified g c =
    if_tried _ _ (modify_of g.K.PartialEq.eq g.V.PartialEq.eq g.F.Remap.remapped g.F.Remap.merged c.args.self.now.ledger c.args.pass.now
    c.try_call_at_key.new.pass _ _) c.try_call_at_key.result c.try_call_at_key.ensures.made
