-- What a client does that puts what a function makes where a key has no value.
use Rattle.std.specs.Prelude.{◌≡◌, ◌≤◌, ◌↔◌, ◌⊎◌, Bool, Option, Some, None, List, length}
use Rattle.std.specs.Prelude.{Result, MatchResult, IfOk, IfErr, IsErrAnd, OnErr}
use Rattle.bin_history.specs.Sure.{IsNeverRefused}
use Rattle.bin_history.specs.declared.form.Form.TheVariants.{Lean}
use Rattle.count_ledger.specs.Limits.{most_calls}
use Rattle.count_ledger.specs.Views.{LedgerView, PassView}
use Rattle.chm.specs.Given.{IsGiven, MayBeAbsent}
use Rattle.chm.specs.Refusals.{IsOfCall}
use Rattle.chm.specs.declared.calls.update.Change.{Change}
use Rattle.chm.specs.declared.calls.update.Change.TheVariants.{Keep, Set}
use Rattle.chm.specs.declared.fault.Fault.{Fault}
use Rattle.chm.specs.declared.fault.Fault.TheVariants.{NoMemory, PassFull}

-- the change and the answer for the value that was there, or for none: a value that was there stays, and the answer is a
-- copy of it; where there was none, the answer is a copy of one that the function may make, which is set. Where the copy
-- is refused, nothing changes.
abbrev pub FindsOrMakes : {V E : Type 0} → (V → Type 0) → (V → Type 0) → Option V → Change V → Result V E → Type 0
FindsOrMakes made copies (Some v) change answer =
    (change ≡ Keep) × MatchResult answer (λ copy. copy ≡ v) (λ _. ¬ IsNeverRefused copies)
FindsOrMakes made copies None change answer = MatchResult answer (λ copy. made copy × (change ≡ Set copy))
    (λ _. (change ≡ Keep) × (¬ IsNeverRefused copies))

-- the value that was there stays, and is the answer; where there was none, the answer is one that the function may make,
-- and that one is left
abbrev pub LeavesFound : {V : Type 0} → (V → Type 0) → Option V → Option V × V → Type 0
LeavesFound made (Some v) r = r ≡ (Some v, v)
LeavesFound made None r = made r.1 × (r.0 ≡ Some r.1)

-- what was there is left
abbrev pub LeavesAll : {V : Type 0} → Option V → Option V × Unit {0} → Type 0
LeavesAll before r = r.0 ≡ before

module _ {K V F : Type 0} (same_key : K → K → Bool) (same_value : V → V → Bool) (remapped : F → K → Option V → Option V)
    (merged : F → V → V → Option V) where
  -- the pass made one call more, a put of what the key has then, which is the answer: the value that all calls before it
  -- left there, or where there is none one that the function may make. Or it failed: the pass is as it was, or the copy
  -- was refused, and the call left what it found.
  pub record IsInserted (made copies : V → Type 0) (ledger : LedgerView K V) (key : K) (old new : PassView K V F)
      (result : Result V Fault) : Type 0 where
    pub inserted : IfOk result (IsGiven same_key same_value remapped merged (LeavesFound made) ledger key old new)
    pub failed : IfErr result (λ fault. (new ≡ old)
        ⊎ ((fault ≡ NoMemory) × IsGiven same_key same_value remapped merged LeavesAll ledger key old new tt))
    pub refused : IsNeverRefused copies → OnErr result (new ≡ old)
    pub full : IsErrAnd result (λ fault. fault ≡ PassFull) ↔ (most_calls ledger.form ledger.clients ≤ length old.made)
    pub faults : IfErr result IsOfCall
    pub sure : ledger.form ≡ Lean → IsNeverRefused copies → IsErrAnd result (λ fault. fault ≡ NoMemory) →
        MayBeAbsent same_key same_value remapped merged ledger key old
