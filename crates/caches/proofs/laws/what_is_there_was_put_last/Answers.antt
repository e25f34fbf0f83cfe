use Rattle.bin_history.proofs.Keys.{key_tells}
use Rattle.caches.proofs.LastPut.{last_put}
use Rattle.caches.proofs.laws.what_is_there_was_put_last.Goals as goal

pub returns : goal.returns
returns g c =
    λ map is_put calls key e. last_put g.K.PartialEq.eq (key_tells g.met.K.Eq.laws g.met.K.HashKey.equal_is_same)
    g.V.PartialEq.eq is_put map calls key e
