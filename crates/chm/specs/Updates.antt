-- What a client does with the value at a key by a function of its own.
use Rattle.std.specs.Prelude.{◌≡◌, ℕ, ◌<◌, ◌≤◌, ◌↔◌, Bool, Option, None, List, length, option_copied}
use Rattle.std.specs.Prelude.{Result, IfOk, IfErr, IsErrOf, OnErr}
use Rattle.std.specs.Borrow.{Bor}
use Rattle.bin_history.specs.Calls.{after}
use Rattle.bin_history.specs.Entries.{lookup}
use Rattle.bin_history.specs.Plain.{run}
use Rattle.bin_history.specs.Records.{RecordView}
use Rattle.bin_history.specs.declared.call.Call.{Call}
use Rattle.bin_history.specs.declared.call.Call.TheVariants.{Contains, Put, Remove}
use Rattle.bin_history.specs.declared.call.Reply.{Reply}
use Rattle.bin_history.specs.declared.op.Op.{Op}
use Rattle.bin_history.specs.declared.op.Op.TheVariants as op
use Rattle.bin_history.specs.declared.form.Form.TheVariants.{Lean}
use Rattle.count_ledger.specs.Fronts.{IsFront}
use Rattle.count_ledger.specs.Limits.{most_calls}
use Rattle.count_ledger.specs.Views.{LedgerView, PassView}
use Rattle.chm.specs.Headline.{IsMade}
use Rattle.chm.specs.Refusals.{IsOfCall}
use Rattle.chm.specs.declared.fault.Fault.{Fault}
use Rattle.chm.specs.declared.fault.Fault.TheVariants.{NoMemory, PassFull}
use Rattle.chm.specs.declared.calls.update.Change.{Change}
use Rattle.chm.specs.declared.calls.update.Change.TheVariants as change

-- a function that was given this value, where there is one, returned this
abbrev pub AnswersAt : {V T : Type 0} → (Option (Bor V) → T → Type 0) → Option V → T → Type 0
AnswersAt {V} post value answer = (shown : Option (Bor V)) × (option_copied shown ≡ value) × post shown answer

-- the call that makes a change
abbrev pub call_for : {K V F : Type 0} → K → Change V → Call K V F
call_for k change.Keep = Contains k
call_for k (change.Set v) = Put k v
call_for k change.Remove = Remove k

-- the same without its key
abbrev pub op_for : {V F : Type 0} → Change V → Op V F
op_for change.Keep = op.Contains
op_for (change.Set v) = op.Put v
op_for change.Remove = op.Remove

-- the pass may make a call more
abbrev pub IsWithin : {K V F : Type 0} → LedgerView K V → PassView K V F → Type 0
IsWithin ledger pass = length pass.made < most_calls ledger.form ledger.clients

-- the function may set a value where it is given none
abbrev pub MayAdd : {V T : Type 0} → (Option (Bor V) → Change V × T → Type 0) → Type 0
MayAdd {V} {T} post = (value : V) × (answer : T) × AnswersAt post None (change.Set value, answer)

module _ {K V F : Type 0} (same_key : K → K → Bool) (same_value : V → V → Bool) (remapped : F → K → Option V → Option V)
    (merged : F → V → V → Option V) where
  -- behind a front the pass made the call for a change that was returned for the value that all calls before it left at
  -- the key
  abbrev pub IsUpdated : (Option V → Change V → Type 0) → LedgerView K V → K → PassView K V F → PassView K V F → Type 0
  IsUpdated answered ledger key old new =
      (front : List (RecordView K V F)) × (r : RecordView K V F) × (change : Change V) × (reply : Reply V)
      × IsFront same_key (after same_value remapped merged) ledger old front
      × IsMade same_value remapped merged (call_for key change) old new reply front r
      × (r.before ≡ run same_key (lookup same_key ledger.opening) front key)
      × answered r.before change

  -- an update by a function: it made the call for the change that the function returned, and returns the rest of what
  -- the function returned; or it failed, and the pass is as it was. It fails where the pass is full, and else only out of
  -- memory; in a lean map only where the function was given no value and set one
  pub record IsUpdate {T : Type 0} (post : Option (Bor V) → Change V × T → Type 0) (ledger : LedgerView K V) (key : K)
      (old new : PassView K V F) (result : Result T Fault) : Type 0 where
    pub updated : IfOk result (λ answer. IsUpdated (λ before c. AnswersAt post before (c, answer)) ledger key old new)
    pub refused : OnErr result (new ≡ old)
    pub full : IsErrOf result PassFull ↔ (most_calls ledger.form ledger.clients ≤ length old.made)
    pub faults : IfErr result IsOfCall
    pub sets : ledger.form ≡ Lean → IsErrOf result NoMemory → MayAdd post
