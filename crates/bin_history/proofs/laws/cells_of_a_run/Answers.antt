use Rattle.bin_history.proofs.Keys.{key_tells}
use Rattle.bin_history.proofs.Cells.{run-cell, IsLegal-cell, IsLegal-cells}
use Rattle.bin_history.proofs.laws.cells_of_a_run.Goals as goal

pub returns-clause-history : goal.returns-clause-history
returns-clause-history g c =
    λ map rs k l. IsLegal-cell g.K.PartialEq.eq (key_tells g.met.K.Eq.laws g.met.K.HashKey.equal_is_same) _ map rs k l

pub returns-clause-value : goal.returns-clause-value
returns-clause-value g c =
    λ map rs k. run-cell g.K.PartialEq.eq (key_tells g.met.K.Eq.laws g.met.K.HashKey.equal_is_same) map rs k

pub returns-clause-legal : goal.returns-clause-legal
returns-clause-legal g c =
    λ map rs cells. IsLegal-cells g.K.PartialEq.eq
    (key_tells g.met.K.Eq.laws g.met.K.HashKey.equal_is_same) _ map rs cells
