use Rattle.script.specs.Reading.{start, whole}
use Rattle.script.proofs.Readings.{HasVerdictFrom-within}
use Rattle.script.proofs.laws.scripts_are_within_limits.Goals as goal

pub returns : goal.returns
returns c = λ text blocks asked h. HasVerdictFrom-within start 1 text (whole blocks asked) h tt
