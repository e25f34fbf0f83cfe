-- What comes of calls of clients, and what is read of closed maps.
use Rattle.std.specs.Prelude.{◌≡◌, ℕ, Bool, List, Option, None, Some, Result, Ok, Err, IfOk, IfErr, IfSome, IfNone, IsOk, MatchOption}
use Rattle.std.specs.Borrow.{Bor}
use Rattle.bin_history.specs.Entries.{lookup}
use Rattle.bin_history.specs.Plain.{run}
use Rattle.bin_history.specs.declared.call.Call.{Call}
use Rattle.bin_history.specs.declared.call.Reply.{Reply}
use Rattle.count_ledger.specs.Fronts.{HasSeen}
use Rattle.count_ledger.specs.Views.{LedgerView, PassView}
use Rattle.chm.specs.Headline.{IsAnswered, entries_of}
use Rattle.chm.specs.declared.fault.Fault.TheVariants.{NoMemory}
use Rattle.clients.specs.Clients.{ClientView}
use Rattle.facing_maps.specs.Answers.{CallOutcome}
use Rattle.facing_maps.specs.Statuses.{facing_wrong_handle}
use Rattle.facing_maps.specs.declared.stage.Stage.{Stage}
use Rattle.facing_maps.specs.declared.stage.Stage.TheVariants as stage

module _ {K V F : Type 0} (same_key : K → K → Bool) (same_value : V → V → Bool)
    (remapped : F → K → Option V → Option V) (merged : F → V → V → Option V)
    (IsAllowed : Type 0) (IsRefused : ℕ → Type 0) where
  -- the call, where it is allowed, was answered as a map's call is; or it was not made, and the pass is as it was
  pub record IsTried (ledger : LedgerView K V) (call : Call K V F) (old new : PassView K V F) (tried : CallOutcome V) :
      Type 0 where
    pub answered : IfOk tried (λ t. IfSome t (IsAnswered same_key same_value remapped merged ledger call old new))
    pub busy : IfOk tried (λ t. IfNone t (new ≡ old))
    pub allowed : IfOk tried (λ _. IsAllowed)
    pub same : IfErr tried (λ _. new ≡ old)
    pub refused : IfErr tried IsRefused

  -- what was a client is the client that tried the call, on the same map; anything else is as it was, and a wrong handle
  abbrev pub IsCalled : Stage K V F → Call K V F → Stage K V F → CallOutcome V → Type 0
  IsCalled (stage.Client c) call then tried = (d : ClientView K V F) × (then ≡ stage.Client d) × (d.map ≡ c.map)
      × IsTried c.map.ledger call c.pass d.pass tried
  IsCalled other call then tried = (then ≡ other) × (tried ≡ Err facing_wrong_handle)

module _ {K V F : Type 0} (same_key : K → K → Bool) (after : Call K V F → Option V → Option V) (IsSure : Type 0)
    (told : Option V → Reply V) (IsAllowed : Type 0) (IsRefused : ℕ → Type 0) where
  -- the client saw all calls so far, and told what they left at the key; or it looked at nothing, and is as it was
  pub record IsLook (ledger : LedgerView K V) (key : K) (old new : PassView K V F) (tried : CallOutcome V) : Type 0 where
    pub seen : IfOk tried (λ t. IfSome t (λ _. HasSeen same_key after ledger old new))
    pub found : IfOk tried (λ t. IfSome t (λ r. IfOk r (λ reply.
        reply ≡ told (run same_key (lookup same_key ledger.opening) new.seen key))))
    pub sure : IsSure → IfOk tried (λ t. IfSome t IsOk)
    pub faults : IfOk tried (λ t. IfSome t (λ r. IfErr r (λ fault. fault ≡ NoMemory)))
    pub busy : IfOk tried (λ t. IfNone t (new ≡ old))
    pub allowed : IfOk tried (λ _. IsAllowed)
    pub same : IfErr tried (λ _. new ≡ old)
    pub refused : IfErr tried IsRefused

  -- what was a client is the client that looked, on the same map; anything else is as it was, and a wrong handle
  abbrev pub IsLooked : Stage K V F → K → Stage K V F → CallOutcome V → Type 0
  IsLooked (stage.Client c) key then tried = (d : ClientView K V F) × (then ≡ stage.Client d) × (d.map ≡ c.map)
      × IsLook c.map.ledger key c.pass d.pass tried
  IsLooked other key then tried = (then ≡ other) × (tried ≡ Err facing_wrong_handle)

-- of a closed map it is the value at the key, where that is allowed; anything else is a wrong handle
abbrev pub IsFoundIn : {K V : Type 0} → (K → K → Bool) → Type 0 → (ℕ → Type 0) → List (K × V) → K →
    Result (Option (Bor V)) ℕ → Type 0
IsFoundIn same_key IsAllowed IsRefused pairs key (Ok found) = IsAllowed
    × MatchOption found (lookup same_key pairs key ≡ None) (λ value. lookup same_key pairs key ≡ Some value.now)
IsFoundIn same_key IsAllowed IsRefused pairs key (Err status) = IsRefused status

abbrev pub IsFound : {K V F : Type 0} → (K → K → Bool) → Type 0 → (ℕ → Type 0) → Stage K V F → K →
    Result (Option (Bor V)) ℕ → Type 0
IsFound same_key IsAllowed IsRefused (stage.Closed q) key found =
    IsFoundIn same_key IsAllowed IsRefused (entries_of q.bins) key found
IsFound same_key IsAllowed IsRefused _ key found = found ≡ Err facing_wrong_handle
