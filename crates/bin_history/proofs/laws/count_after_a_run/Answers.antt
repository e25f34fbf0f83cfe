use Rattle.bin_history.proofs.Keys.{key_tells}
use Rattle.bin_history.proofs.Counts.{length-replay}
use Rattle.bin_history.proofs.laws.count_after_a_run.Goals as goal

pub returns : goal.returns
returns g c =
    λ base rs d l. length-replay g.K.PartialEq.eq
    (key_tells g.met.K.Eq.laws g.met.K.HashKey.equal_is_same) _ base rs d l
