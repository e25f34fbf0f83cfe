use Rattle.std.proofs.Common.{ap}
use Rattle.bin_history.proofs.Keys.{key_tells}
use Rattle.bin_history.proofs.Parts.{run-part, IsLegal-part}
use Rattle.bin_history.proofs.laws.part_of_a_run.Goals as goal

pub returns-clause-run : goal.returns-clause-run
returns-clause-run g c = λ test map rs k. ap (λ (m : _ → _). m k)
    (run-part g.K.PartialEq.eq (key_tells g.met.K.Eq.laws g.met.K.HashKey.equal_is_same) test map rs)

pub returns-clause-legal : goal.returns-clause-legal
returns-clause-legal g c =
    λ test map rs l. IsLegal-part g.K.PartialEq.eq (key_tells g.met.K.Eq.laws g.met.K.HashKey.equal_is_same)
    test _ map rs l
