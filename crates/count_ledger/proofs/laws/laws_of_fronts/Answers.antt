use Rattle.bin_history.proofs.Keys.{key_tells}
use Rattle.bin_history.proofs.Parts.{replay-part, run_of_part}
use Rattle.count_ledger.proofs.Fronts.{BeginsWith-more, IsFront-called, IsHistory-front, IsHistoryOn-front, others_behind}
use Rattle.count_ledger.proofs.laws.laws_of_fronts.Goals as goal

pub returns-clause-history : goal.returns-clause-history
returns-clause-history g c =
    IsHistory-front g.K.PartialEq.eq _ (key_tells g.met.K.Eq.laws g.met.K.HashKey.equal_is_same) g.K.HashKey.code

pub returns-clause-value : goal.returns-clause-value
returns-clause-value g c = λ opening test front key on.
    run_of_part g.K.PartialEq.eq (key_tells g.met.K.Eq.laws g.met.K.HashKey.equal_is_same) test opening front key on

pub returns-clause-pairs : goal.returns-clause-pairs
returns-clause-pairs g c = λ opening test front.
    replay-part g.K.PartialEq.eq (key_tells g.met.K.Eq.laws g.met.K.HashKey.equal_is_same) test opening front

pub returns-clause-key : goal.returns-clause-key
returns-clause-key g c =
    IsHistoryOn-front g.K.PartialEq.eq _ (key_tells g.met.K.Eq.laws g.met.K.HashKey.equal_is_same)

pub returns-clause-others : goal.returns-clause-others
returns-clause-others g c = others_behind g.K.PartialEq.eq _

pub returns-clause-called : goal.returns-clause-called
returns-clause-called g c =
    IsFront-called g.K.PartialEq.eq _ (key_tells g.met.K.Eq.laws g.met.K.HashKey.equal_is_same)

pub returns-clause-begins : goal.returns-clause-begins
returns-clause-begins g c = BeginsWith-more
