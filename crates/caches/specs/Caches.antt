-- What the calls of a cache do, as calls of its map.
use Rattle.std.specs.Prelude.{◌≡◌, ◌⊎◌, ◌↔◌, ◌≤◌, ℕ, Bool, true, false, Option, Some, None, List, [], ◌∷◌, ◌++◌, All, length}
use Rattle.std.specs.Prelude.{Result, IfOk, IfErr, IsErrOf, OnErr}
use Rattle.std.specs.List.{FoldsTo}
use Rattle.bin_history.specs.Calls.{key_of}
use Rattle.bin_history.specs.Records.{RecordView}
use Rattle.bin_history.specs.declared.call.Call.{Call}
use Rattle.bin_history.specs.declared.call.Call.TheVariants.{Contains, Put, Remove}
use Rattle.bin_history.specs.declared.call.Reply.{Reply}
use Rattle.bin_history.specs.declared.call.Reply.TheVariants.{Truth, Value}
use Rattle.caches.specs.Counted.{with_evictions}
use Rattle.caches.specs.Entries.{is_live, live_value, same_entry, used_at}
use Rattle.caches.specs.declared.counts.CacheCounts.{CacheCounts}
use Rattle.caches.specs.declared.entry.CacheEntry.{CacheEntry}
use Rattle.chm.specs.Cleared.{HasMade}
use Rattle.chm.specs.Headline.{IsCalled}
use Rattle.chm.specs.Refusals.{IsOfCall}
use Rattle.chm.specs.declared.fault.Fault.{Fault}
use Rattle.chm.specs.declared.fault.Fault.TheVariants.{PassFull}
use Rattle.count_ledger.specs.Limits.{most_calls}
use Rattle.count_ledger.specs.Views.{LedgerView, PassView}
use Rattle.functions.specs.declared.nothing.NoFunction.{NoFunction}

-- no function makes no value
abbrev pub no_value : {X Y V : Type 0} → NoFunction → X → Y → Option V
no_value _ _ _ = None

-- the call by which a get notes that it used this entry, or finds none, and its reply
abbrev pub use_of : {K V : Type 0} → ℕ → K → Option (CacheEntry V) → Call K (CacheEntry V) NoFunction
use_of time key None = Contains key
use_of time key (Some e) = Put key (used_at time e)

abbrev pub reply_of : {V : Type 0} → Option (CacheEntry V) → Reply (CacheEntry V)
reply_of None = Truth false
reply_of (Some e) = Value (Some e)

-- the two have one value and one deadline
abbrev pub IsAlike : {V : Type 0} → CacheEntry V → CacheEntry V → Type 0
IsAlike x y = (x.value ≡ y.value) × (x.deadline ≡ y.deadline)

-- what a call that puts nothing may leave at its key: nothing, or the entry that was there, used or not
abbrev pub LeavesOrTakes : {V : Type 0} → Option (CacheEntry V) → Option (CacheEntry V) → Type 0
LeavesOrTakes before None = Unit {0}
LeavesOrTakes None (Some y) = ⊥
LeavesOrTakes (Some x) (Some y) = IsAlike x y

-- the entry that a call took away from its key, if it did: the key, and the value
abbrev pub taken_from : {K V : Type 0} → K → Option (CacheEntry V) → Option (CacheEntry V) → List (K × V) → List (K × V)
taken_from key (Some x) None rest = (key, x.value) ∷ rest
taken_from key None after rest = rest
taken_from key (Some x) (Some y) rest = rest

-- the entries that some calls took away, in order
abbrev pub taken_by : {K V : Type 0} → List (RecordView K (CacheEntry V) NoFunction) → List (K × V)
taken_by [] = []
taken_by (r ∷ rs) = taken_from (key_of r.call) r.before r.after (taken_by rs)

-- a function was used at the key and the value of an entry, and became another
abbrev pub IsHanded : {G K V : Type 0} → (G → K → V → Unit {0} → G → Type 0) → G → K × V → G → Type 0
IsHanded step old e new = step old e.0 e.1 tt new

-- the value of an entry that was there before, and is gone
abbrev pub gone_of : {V : Type 0} → Option (CacheEntry V) → Option (CacheEntry V) → Option V
gone_of (Some x) None = Some x.value
gone_of None after = None
gone_of (Some x) (Some y) = None

-- a call that puts nothing
abbrev pub PutsNothing : {K V : Type 0} → RecordView K (CacheEntry V) NoFunction → Type 0
PutsNothing r = LeavesOrTakes r.before r.after

-- the pass made one call more, which puts nothing
abbrev pub HasPutNothing : {K V : Type 0} → PassView K (CacheEntry V) NoFunction → PassView K (CacheEntry V) NoFunction → Type 0
HasPutNothing {K} {V} old new = (r : RecordView K (CacheEntry V) NoFunction) × HasMade (r ∷ []) old new × PutsNothing r

-- the pass made some calls more that put nothing, and has then seen more; each entry that they took away was handed to the
-- function, in order
pub record HasEvicted {G K V : Type 0} (step : G → K → V → Unit {0} → G → Type 0) (f g : G)
    (old new : PassView K (CacheEntry V) NoFunction) : Type 0 where
  pub calls : List (RecordView K (CacheEntry V) NoFunction)
  pub nothing : All PutsNothing calls
  pub made : HasMade calls old new
  pub handed : FoldsTo (IsHanded step) f (taken_by calls) g

-- what a call that takes ended entries alone away may leave at its key: nothing where the entry that was there had ended, or
-- what was there
abbrev pub LeavesLive : {V : Type 0} → ℕ → Option (CacheEntry V) → Option (CacheEntry V) → Type 0
LeavesLive time None None = Unit {0}
LeavesLive time None (Some y) = ⊥
LeavesLive time (Some x) None = is_live time x ≡ false
LeavesLive time (Some x) (Some y) = y ≡ x

-- the pass made some calls more, each of which is such a one, and has then seen more; each entry that they took away is
-- counted
pub record HasCounted {K V : Type 0} (Is : RecordView K (CacheEntry V) NoFunction → Type 0) (counts then : CacheCounts)
    (old new : PassView K (CacheEntry V) NoFunction) : Type 0 where
  pub calls : List (RecordView K (CacheEntry V) NoFunction)
  pub each : All Is calls
  pub made : HasMade calls old new
  pub counted : then ≡ with_evictions (taken_by calls) counts

-- the client has made all the calls that it may
abbrev pub HasMadeAll : {K V : Type 0} → LedgerView K (CacheEntry V) → PassView K (CacheEntry V) NoFunction → Type 0
HasMadeAll ledger pass = most_calls ledger.form ledger.clients ≤ length pass.made

-- any call
abbrev pub IsAny : {K V : Type 0} → RecordView K (CacheEntry V) NoFunction → Type 0
IsAny r = Unit {0}

-- a call that takes ended entries alone away, and leaves the others as they are
abbrev pub IsOfEnded : {K V : Type 0} → ℕ → RecordView K (CacheEntry V) NoFunction → Type 0
IsOfEnded time r = LeavesLive time r.before r.after

module _ {K V : Type 0} (same_key : K → K → Bool) (same_value : V → V → Bool) where
  -- the pass made the call, which found what all calls before it left at the key
  abbrev pub IsCalledOn : LedgerView K (CacheEntry V) → Call K (CacheEntry V) NoFunction → PassView K (CacheEntry V) NoFunction
      → PassView K (CacheEntry V) NoFunction → Reply (CacheEntry V) → Type 0
  IsCalledOn = IsCalled same_key (same_entry same_value) no_value no_value

  -- the call found an entry at the key, which all calls before it left there, or none, and left it, used; the answer is the
  -- value of the entry, where its deadline is still to come
  abbrev pub IsFound : LedgerView K (CacheEntry V) → K → ℕ → PassView K (CacheEntry V) NoFunction → PassView K (CacheEntry V) NoFunction
      → Option V → Type 0
  IsFound ledger key time old new answer = (before : Option (CacheEntry V))
      × IsCalledOn ledger (use_of time key before) old new (reply_of before) × (answer ≡ live_value time before)

  -- the value of an entry that could not be copied: the call put the entry that it found
  abbrev pub IsNotCopied : LedgerView K (CacheEntry V) → K → PassView K (CacheEntry V) NoFunction → PassView K (CacheEntry V) NoFunction
      → Type 0
  IsNotCopied ledger key old new = (e : CacheEntry V) × IsCalledOn ledger (Put key e) old new (Value (Some e))

  -- a get; it is refused where the pass is full, and fails where the value cannot be copied
  pub record IsGot (ledger : LedgerView K (CacheEntry V)) (key : K) (time : ℕ) (old new : PassView K (CacheEntry V) NoFunction)
      (result : Result (Option V) Fault) : Type 0 where
    pub got : IfOk result (IsFound ledger key time old new)
    pub refused : OnErr result ((new ≡ old) ⊎ IsNotCopied ledger key old new)
    pub full : IsErrOf result PassFull ↔ (most_calls ledger.form ledger.clients ≤ length old.made)
    pub faults : IfErr result IsOfCall

  -- a put: calls that put nothing, then the put of the entry, and then again calls that put nothing; the answer is the
  -- value of the entry that the put found, where its deadline is still to come
  abbrev pub IsPut : {G : Type 0} → (G → K → V → Unit {0} → G → Type 0) → G → G → LedgerView K (CacheEntry V) → K → CacheEntry V → ℕ
      → PassView K (CacheEntry V) NoFunction → PassView K (CacheEntry V) NoFunction → Option V → Type 0
  IsPut {G} step f g ledger key entry time old new answer = (first then : PassView K (CacheEntry V) NoFunction) × (mid : G)
      × (before : Option (CacheEntry V)) × HasEvicted step f mid old first
      × IsCalledOn ledger (Put key entry) first then (Value before) × HasEvicted step mid g then new
      × (answer ≡ live_value time before)

  -- a removal: the answer is the value that all calls before it left at the key, where its deadline is still to come
  abbrev pub IsTaken : LedgerView K (CacheEntry V) → K → ℕ → PassView K (CacheEntry V) NoFunction → PassView K (CacheEntry V) NoFunction
      → Option V → Type 0
  IsTaken ledger key time old new answer = (before : Option (CacheEntry V))
      × IsCalledOn ledger (Remove key) old new (Value before) × (answer ≡ live_value time before)

-- == What the last put left ==

-- one of the puts, by a test that tells them, or a call that puts nothing
abbrev pub IsPutOrNothing : {K V : Type 0} → (RecordView K (CacheEntry V) NoFunction → Bool) → RecordView K (CacheEntry V) NoFunction
    → Type 0
IsPutOrNothing {K} {V} is_put r = ((is_put r ≡ true) × (put : CacheEntry V) × (r.call ≡ Put (key_of r.call) put)) ⊎ PutsNothing r

module _ {K V : Type 0} (same_key : K → K → Bool) (is_put : RecordView K (CacheEntry V) NoFunction → Bool) where
  -- the entry has the value and the deadline of the last put at the key: every later call there puts nothing
  abbrev pub IsOfLastPut : List (RecordView K (CacheEntry V) NoFunction) → K → CacheEntry V → Type 0
  IsOfLastPut calls key e = (front rest : List (RecordView K (CacheEntry V) NoFunction)) × (r : RecordView K (CacheEntry V) NoFunction)
      × (put : CacheEntry V) × (calls ≡ front ++ (r ∷ rest)) × (is_put r ≡ true) × (r.call ≡ Put (key_of r.call) put)
      × (same_key (key_of r.call) key ≡ true) × IsAlike put e
      × All (λ s. same_key (key_of s.call) key ≡ true → PutsNothing s) rest
