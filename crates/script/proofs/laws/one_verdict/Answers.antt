use Rattle.script.specs.Reading.{start}
use Rattle.script.proofs.Readings.{HasVerdictFrom-same}
use Rattle.script.proofs.laws.one_verdict.Goals as goal

pub returns : goal.returns
returns c = λ text u v h g. HasVerdictFrom-same start 1 text u v h g
