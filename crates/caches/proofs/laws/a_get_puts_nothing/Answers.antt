use Rattle.caches.proofs.Gets.{found_nothing_put, not_copied_nothing_put}
use Rattle.caches.proofs.laws.a_get_puts_nothing.Goals as goal

pub returns-clause-found : goal.returns-clause-found
returns-clause-found g c =
    λ ledger key time old new answer is.
    found_nothing_put g.K.PartialEq.eq g.V.PartialEq.eq ledger key old new time answer is

pub returns-clause-not_copied : goal.returns-clause-not_copied
returns-clause-not_copied g c =
    λ ledger key old new is. not_copied_nothing_put g.K.PartialEq.eq g.V.PartialEq.eq ledger key old new is
