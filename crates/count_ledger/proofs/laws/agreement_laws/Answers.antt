use Rattle.bin_history.proofs.Keys.{key_tells}
use Rattle.count_ledger.proofs.Agreements.{BinAgrees-new, BinAgrees-gone_on, BinAgrees-prepared, BinAgrees-divided}
use Rattle.count_ledger.proofs.Agreements.{BinAgrees-replay, BinAgrees-count}
use Rattle.count_ledger.proofs.laws.agreement_laws.Goals as goal

pub returns-clause-new : goal.returns-clause-new
returns-clause-new g c = BinAgrees-new g.K.PartialEq.eq (key_tells g.met.K.Eq.laws g.met.K.HashKey.equal_is_same)
    g.K.HashKey.code _

pub returns-clause-gone_on : goal.returns-clause-gone_on
returns-clause-gone_on g c =
    BinAgrees-gone_on g.K.PartialEq.eq (key_tells g.met.K.Eq.laws g.met.K.HashKey.equal_is_same) g.K.HashKey.code _

pub returns-clause-prepared : goal.returns-clause-prepared
returns-clause-prepared g c =
    BinAgrees-prepared g.K.PartialEq.eq (key_tells g.met.K.Eq.laws g.met.K.HashKey.equal_is_same) g.K.HashKey.code _

pub returns-clause-divided : goal.returns-clause-divided
returns-clause-divided g c =
    BinAgrees-divided g.K.PartialEq.eq (key_tells g.met.K.Eq.laws g.met.K.HashKey.equal_is_same) g.K.HashKey.code _

pub returns-clause-count : goal.returns-clause-count
returns-clause-count g c = BinAgrees-count g.K.PartialEq.eq (key_tells g.met.K.Eq.laws g.met.K.HashKey.equal_is_same)
    g.K.HashKey.code _

pub returns-clause-replay : goal.returns-clause-replay
returns-clause-replay g c = BinAgrees-replay g.K.PartialEq.eq (key_tells g.met.K.Eq.laws g.met.K.HashKey.equal_is_same)
    g.K.HashKey.code _
