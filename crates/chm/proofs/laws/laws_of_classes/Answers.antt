use Rattle.std.proofs.Common.{arith}
use Rattle.bin_history.proofs.Keys.{key_tells}
use Rattle.chm.proofs.ByClass.{visited, cleared}
use Rattle.chm.proofs.laws.laws_of_classes.Goals as goal

pub returns-clause-visited : goal.returns-clause-visited
returns-clause-visited g c = λ ledger.
    visited g.K.PartialEq.eq (key_tells g.met.K.Eq.laws g.met.K.HashKey.equal_is_same) g.K.HashKey.code _ ledger

pub returns-clause-cleared : goal.returns-clause-cleared
returns-clause-cleared g c = λ n ledger old new classes walk are.
    cleared g.K.PartialEq.eq (key_tells g.met.K.Eq.laws g.met.K.HashKey.equal_is_same) g.K.HashKey.code _ ledger old new
    classes (λ hash. (let e = walk.each_hash hash in omega arith)) are
