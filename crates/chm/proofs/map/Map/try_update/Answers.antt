use Rattle.chm.proofs.AtKey.{if_tried, update_of}
use Rattle.chm.proofs.map.Map.try_update.Goals as goal

pub returns-clause-updated : goal.returns-clause-updated
returns-clause-updated g c =
    if_tried _ _ (update_of g.K.PartialEq.eq g.V.PartialEq.eq g.F.Remap.remapped g.F.Remap.merged c.args.self.now.ledger c.args.pass.now
    c.try_call_at_key.new.pass _ _) c.try_call_at_key.result c.try_call_at_key.ensures.made
