use Rattle.chm.proofs.AtKey.{give_of}
use Rattle.chm.proofs.map.Map.give.Goals as goal

pub returns : goal.returns
returns g c =
    give_of g.K.PartialEq.eq g.V.PartialEq.eq g.F.Remap.remapped g.F.Remap.merged c.args.self.now.ledger c.args.pass.now
    c.call_at_key.new.pass _ _ _ c.call_at_key.result c.call_at_key.ensures
