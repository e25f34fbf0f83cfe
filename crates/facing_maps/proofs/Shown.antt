-- A step of a walk that showed a bucket.
use Rattle.std.proofs.Common.{◌≡◌, Option, Some, Result, Ok, subst}
use Rattle.std.specs.Prelude.{IfOk, IfSome}

-- what holds of each bucket that a step shows holds of the one that it showed
pub of-shown : {T N E : Type 0} (P : T → N → Type 0) (r : Result (Option T × N) E) (v : T) (n : N) → r ≡ Ok (Some v, n)
    → IfOk r (λ step. IfSome step.0 (λ w. P w step.1)) → P v n
of-shown {T} {N} {E} P r v n is all =
    subst (λ (s : Result (Option T × N) E). IfOk s (λ step. IfSome step.0 (λ w. P w step.1))) is all
