-- What a call at a key did.
use Rattle.std.specs.Prelude.{◌≡◌, ◌≤◌, ◌⊎◌, length, Result, IfOk, IfErr, OnErr}
use Rattle.count_ledger.specs.Limits.{most_calls}
use Rattle.count_ledger.specs.Views.{LedgerView, PassView}
use Rattle.chm.specs.Updates.{IsWithin}

-- the call was made; or it failed, and the pass is as it was: where the pass is full, and else only for a reason of its own
pub record IsCallAtKey {K V F T E : Type 0} (does : LedgerView K V → PassView K V F → PassView K V F → T → Type 0)
    (fails : LedgerView K V → PassView K V F → E → Type 0) (full : E → Type 0) (ledger : LedgerView K V)
    (old new : PassView K V F) (result : Result T E) : Type 0 where
  pub done : IfOk result (λ answer. IsWithin ledger old × does ledger old new answer)
  pub failed : IfErr result (λ e. (IsWithin ledger old × fails ledger old e)
      ⊎ ((most_calls ledger.form ledger.clients ≤ length old.made) × full e))
  pub same : OnErr result (new ≡ old)
