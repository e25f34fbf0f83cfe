use Rattle.chm.proofs.AtKey.{modify_of}
use Rattle.chm.proofs.map.Map.modify.Goals as goal

pub returns : goal.returns
returns g c =
    modify_of g.K.PartialEq.eq g.V.PartialEq.eq g.F.Remap.remapped g.F.Remap.merged c.args.self.now.ledger c.args.pass.now
    c.call_at_key.new.pass _ _ c.call_at_key.result c.call_at_key.ensures
