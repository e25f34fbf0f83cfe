-- Values that a function is lent or given where they lie, by calls.
use Rattle.std.specs.Prelude.{◌≡◌, ◌⊎◌, ◌≤◌, ◌↔◌, Bool, true, false, Option, Some, None, MatchOption, List, length}
use Rattle.std.specs.Prelude.{Result, IfOk, IfErr, IsErrAnd, IsErrOf, OnErr}
use Rattle.std.specs.Borrow.{Bor}
use Rattle.bin_history.specs.Calls.{after}
use Rattle.bin_history.specs.Entries.{lookup}
use Rattle.bin_history.specs.Plain.{run}
use Rattle.bin_history.specs.Readiness.{call_to}
use Rattle.bin_history.specs.Records.{RecordView}
use Rattle.bin_history.specs.declared.call.Call.{Call}
use Rattle.bin_history.specs.declared.call.Call.TheVariants.{Contains, Put}
use Rattle.bin_history.specs.declared.call.Reply.{Reply}
use Rattle.bin_history.specs.declared.call.Reply.TheVariants.{Truth, Value}
use Rattle.bin_history.specs.declared.form.Form.TheVariants.{Lean}
use Rattle.count_ledger.specs.Fronts.{IsFront}
use Rattle.count_ledger.specs.Limits.{most_calls}
use Rattle.count_ledger.specs.Views.{LedgerView, PassView}
use Rattle.chm.specs.Headline.{IsCalled}
use Rattle.chm.specs.Refusals.{IsOfCall}
use Rattle.chm.specs.Sure.{IsMadeOrFull}
use Rattle.chm.specs.Updates.{AnswersAt}
use Rattle.chm.specs.declared.calls.not_made.NotMade.{NotMade}
use Rattle.chm.specs.declared.calls.update.Change.{Change}
use Rattle.chm.specs.declared.calls.update.Change.TheVariants as change
use Rattle.chm.specs.declared.fault.Fault.{Fault}
use Rattle.chm.specs.declared.fault.Fault.TheVariants.{NoMemory, PassFull}

-- what a change leaves of this value, or of none
abbrev pub left_by : {V : Type 0} → Change V → Option V → Option V
left_by change.Keep before = before
left_by (change.Set v) before = Some v
left_by change.Remove before = None

-- the value stays where there is one, and the other comes back
abbrev pub put_where_none : {V : Type 0} → V → Option V → Option V × Option V
put_where_none value None = (Some value, None)
put_where_none value (Some before) = (Some before, Some value)

-- the function, which was shown this value, or none, returned a change and the answer, and the change leaves that one
abbrev pub LeavesByChange : {V T : Type 0} → (Option (Bor V) → Change V × T → Type 0) → Option V → Option V × T → Type 0
LeavesByChange {V} post before r = (c : Change V) × AnswersAt post before (c, r.1) × (r.0 ≡ left_by c before)

-- the function, which was lent the place of this value, or of none, left that one and returned the answer; where it failed
-- it left what was there
abbrev pub LeavesOrKeeps : {V T E : Type 0} → (Option V → Result T E → Option V → Type 0) → Option V → Option V × Result T E →
    Type 0
LeavesOrKeeps left before r = left before r.1 r.0 × OnErr r.1 (r.0 ≡ before)

-- the value where there was none; else what the function, which was given both, returned; and whether there was one
abbrev pub LeavesMerged : {V : Type 0} → (V → V → Option V → Type 0) → V → Option V → Option V × Bool → Type 0
LeavesMerged post value None r = r ≡ (Some value, false)
LeavesMerged post value (Some before) r = (r.1 ≡ true) × post before value r.0

-- what was given comes back; or the function was given it and some value, or none, and returned, and nothing comes back
abbrev pub IsBackOrUsed : {V T D : Type 0} → (Option V → Option V × T → Type 0) → D → Option D → Type 0
IsBackOrUsed {V} {T} post given back = (back ≡ Some given)
    ⊎ ((back ≡ None) × (before : Option V) × (r : Option V × T) × post before r)

module _ {K V F : Type 0} (same_key : K → K → Bool) (same_value : V → V → Bool) (remapped : F → K → Option V → Option V)
    (merged : F → V → V → Option V) where
  -- the pass made one call more: where the key had no value, a `contains_key`; else the function, which was lent the value
  -- that all calls before it left there, left another and returned the answer, and the call is a put of what it left
  abbrev pub IsModified : {T : Type 0} → (V → T → V → Type 0) → LedgerView K V → K → PassView K V F → PassView K V F →
      Option T → Type 0
  IsModified left ledger key old new result =
      (call : Call K V F) × (reply : Reply V) × IsCalled same_key same_value remapped merged ledger call old new reply
      × MatchOption result ((call ≡ Contains key) × (reply ≡ Truth false))
      (λ answer. (before : V) × (put : V) × (call ≡ Put key put) × (reply ≡ Value (Some before)) × left before answer put)

  -- the pass made one call more: the function, which was given the value that all calls before it left at the key, or
  -- none, returned what the call left there and the answer; the call is a put of it, or a remove
  abbrev pub IsGiven : {T : Type 0} → (Option V → Option V × T → Type 0) → LedgerView K V → K → PassView K V F →
      PassView K V F → T → Type 0
  IsGiven post ledger key old new answer =
      (before : Option V) × (left : Option V) × post before (left, answer)
      × IsCalled same_key same_value remapped merged ledger (call_to key left) old new (Value before)

  -- behind all that the client had seen there is a front after which the key has no value
  abbrev pub MayBeAbsent : LedgerView K V → K → PassView K V F → Type 0
  MayBeAbsent ledger key pass = (front : List (RecordView K V F))
      × IsFront same_key (after same_value remapped merged) ledger pass front
      × (run same_key (lookup same_key ledger.opening) front key ≡ None)

  -- the value at a key was modified, or the call was refused, and the pass is as it was; a lean map refuses it only where
  -- the pass is full
  pub record IsModify {T : Type 0} (left : V → T → V → Type 0) (ledger : LedgerView K V) (key : K)
      (old new : PassView K V F) (result : Result (Option T) Fault) : Type 0 where
    pub modified : IfOk result (IsModified left ledger key old new)
    pub refused : OnErr result (new ≡ old)
    pub full : IsErrOf result PassFull ↔ (most_calls ledger.form ledger.clients ≤ length old.made)
    pub faults : IfErr result IsOfCall
    pub sure : ledger.form ≡ Lean → IsMadeOrFull result

  -- the value at a key was given to a function, or the call was refused, and the pass is as it was; what was given with the
  -- key comes back, but where a recorded map was out of memory once the function had returned. A lean map is out of memory
  -- only where the key has no value
  pub record IsGive {T D : Type 0} (post : Option V → Option V × T → Type 0) (ledger : LedgerView K V) (key : K) (given : D)
      (old new : PassView K V F) (result : Result T (NotMade D)) : Type 0 where
    pub made : IfOk result (IsGiven post ledger key old new)
    pub refused : OnErr result (new ≡ old)
    pub full : IsErrAnd result (λ e. e.fault ≡ PassFull) ↔ (most_calls ledger.form ledger.clients ≤ length old.made)
    pub faults : IfErr result (λ e. IsOfCall e.fault)
    pub back : IfErr result (λ e. ledger.form ≡ Lean → e.given ≡ Some given)
    pub sure : ledger.form ≡ Lean → IsErrAnd result (λ e. e.fault ≡ NoMemory) → MayBeAbsent ledger key old
    pub full_back : IfErr result (λ e. e.fault ≡ PassFull → e.given ≡ Some given)
    pub kept : IfErr result (λ e. IsBackOrUsed post given e.given)
