use Rattle.count_ledger.proofs.Keeping.{Keeps-looked}
use Rattle.count_ledger.proofs.ledger.Ledger.share.Goals as goal

pub look-requires-clause-rule : goal.look-requires-clause-rule
look-requires-clause-rule g c = Keeps-looked g.K.HashKey.code g.K.PartialEq.eq _ c.self.inside.table.shared.key _ _ _
