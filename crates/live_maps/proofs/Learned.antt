-- Passes of a list that learned one after the other, up to the last.
use Rattle.std.proofs.Common.{◌≡◌, ◌≤◌, Bool, Option, ℕ, List, length, take, All, sym, subst}
use Rattle.std.proofs.lemmas.List.{take_all}
use Rattle.std.proofs.lemmas.Slice.Zip.{AllZip-long}
use Rattle.std.specs.List.{AllZip}
use Rattle.bin_history.specs.declared.call.Call.{Call}
use Rattle.count_ledger.specs.Fronts.{HasSeen}
use Rattle.count_ledger.specs.Views.{LedgerId, LedgerView, PassView}
use Rattle.count_ledger.proofs.Learning.{ledgers_seen}

module _ {K V F : Type 0} (same : K → K → Bool) (after : Call K V F → Option V → Option V) (ledger : LedgerView K V)
    (olds now : List (PassView K V F)) (i : ℕ) (old : length olds ≤ i) (new : length now ≤ i)
    (seen : AllZip (HasSeen same after ledger) (take i olds) (take i now)) where
  all-seen : AllZip (HasSeen same after ledger) olds now
  all-seen = subst (λ (l : List (PassView K V F)). AllZip (HasSeen same after ledger) l now) (take_all i olds old)
      (subst (AllZip (HasSeen same after ledger) (take i olds)) (take_all i now new) seen)

  pub own-now : (id : LedgerId) → All (λ p. p.ledger ≡ id) olds → All (λ p. p.ledger ≡ id) now
  own-now id own = ledgers_seen same after ledger id olds now all-seen own

  pub long-now : length now ≡ length olds
  long-now = AllZip-long (HasSeen same after ledger) olds now all-seen
