-- A get, as a call that lends its entry.
use Rattle.std.proofs.Common.{◌≡◌, ◌⊎◌, inl, inr, ℕ, Bool, Option, Some, None, Result, Ok, Err, IfErr, IfOk, IsErr, IsOk, IsSomeAnd}
use Rattle.std.proofs.Common.{IsErrOf, OnErr, false, refl, ap, subst, sym, ◌∙◌}
use Rattle.std.proofs.lemmas.Bool.{false≢true}
use Rattle.std.proofs.lemmas.Result.{IfErr-at_err}
use Rattle.bin_history.specs.declared.call.Call.{Call}
use Rattle.bin_history.specs.declared.call.Call.TheVariants.{Put}
use Rattle.bin_history.specs.declared.call.Reply.{Reply}
use Rattle.bin_history.specs.declared.call.Reply.TheVariants.{Truth, Value}
use Rattle.caches.proofs.Full.{fault_of, memory≢full}
use Rattle.caches.specs.Caches.{IsCalledOn, IsFound, IsGot, IsNotCopied, no_value}
use Rattle.caches.specs.Entries.{live_value, same_entry, used_at}
use Rattle.caches.specs.declared.entry.CacheEntry.{CacheEntry}
use Rattle.chm.specs.Given.{IsModified, IsModify}
use Rattle.chm.specs.Sure.{IsMadeOrFull}
use Rattle.chm.specs.declared.fault.Fault.{Fault}
use Rattle.chm.specs.declared.fault.Fault.TheVariants.{NoMemory, PassFull}
use Rattle.count_ledger.specs.Views.{LedgerView, PassView}
use Rattle.functions.specs.declared.nothing.NoFunction.{NoFunction}

-- what a use of an entry leaves and answers
pub record IsUsedBy {V X : Type 0} (time : ℕ) (before : CacheEntry V) (answer : Result (Option V) X) (left : CacheEntry V) : Type 0 where
  pub value : IfOk answer (λ value. value ≡ live_value time (Some before))
  pub entry : IfOk answer (λ value. left ≡ used_at time before)
  pub same : OnErr answer (left ≡ before)

same_fault : {T U : Type 0} (fault wanted : Fault) → IsErrOf {T = T} (Err fault) wanted → IsErrOf {T = U} (Err fault) wanted
same_fault {T} {U} fault wanted is = ap Err (fault_of {T = T} fault wanted is)

module _ {K V X : Type 0} (same_key : K → K → Bool) (same_value : V → V → Bool) (time : ℕ)
    (left : CacheEntry V → Result (Option V) X → CacheEntry V → Type 0)
    (ledger : LedgerView K (CacheEntry V)) (key : K) (old new : PassView K (CacheEntry V) NoFunction) where
  -- what was lent the entry uses it
  abbrev pub Uses : Type 0
  Uses = (before : CacheEntry V) (answer : Result (Option V) X) (put : CacheEntry V) → left before answer put
      → IsUsedBy time before answer put

  abbrev pub HasModified : Option (Result (Option V) X) → Type 0
  HasModified used = IsModified same_key (same_entry same_value) no_value no_value left ledger key old new used

  abbrev pub HasTried : Result (Option (Result (Option V) X)) Fault → Type 0
  HasTried used = IsModify same_key (same_entry same_value) no_value no_value left ledger key old new used

  found_some : Uses → (value : Option V) → HasModified (Some (Ok value))
      → IsFound same_key same_value ledger key time old new value
  found_some uses value (call, reply, called, (before, put, call_is, reply_is, did)) =
      let used : IsUsedBy time before (Ok value) put = uses before (Ok value) put did in
      let whole : call ≡ Put key (used_at time before) = call_is ∙ ap (λ (e : CacheEntry V). Put key e) used.entry in (
        Some before,
        subst (λ (c : Call K (CacheEntry V) NoFunction). IsCalledOn same_key same_value ledger c old new (Value (Some before)))
            whole
            (subst (λ (r : Reply (CacheEntry V)). IsCalledOn same_key same_value ledger call old new r) reply_is called),
        used.value,
      )

  found_none : HasModified None → IsFound same_key same_value ledger key time old new None
  found_none (call, reply, called, (call_is, reply_is)) = (
    None,
    subst (λ (c : Call K (CacheEntry V) NoFunction). IsCalledOn same_key same_value ledger c old new (Truth false))
        call_is
        (subst (λ (r : Reply (CacheEntry V)). IsCalledOn same_key same_value ledger call old new r) reply_is called),
    refl,
  )

  not_copied : Uses → (error : X) → HasModified (Some (Err error)) → IsNotCopied same_key same_value ledger key old new
  not_copied uses error (call, reply, called, (before, put, call_is, reply_is, did)) =
      let used : IsUsedBy time before (Err error) put = uses before (Err error) put did in
      let whole : call ≡ Put key before = call_is ∙ ap (λ (e : CacheEntry V). Put key e) used.same in (
        before,
        subst (λ (c : Call K (CacheEntry V) NoFunction). IsCalledOn same_key same_value ledger c old new (Value (Some before)))
            whole
            (subst (λ (r : Reply (CacheEntry V)). IsCalledOn same_key same_value ledger call old new r) reply_is called),
      )

  -- a get that found a value, or none
  got_ok : Uses → (used : Option (Result (Option V) X)) (value : Option V) → HasTried (Ok used)
      → ((used ≡ Some (Ok value)) ⊎ ((used ≡ None) × (value ≡ None)))
      → IsGot same_key same_value ledger key time old new (Ok value)
  got_ok uses used value modify (inl is) = record {
    got = found_some uses value (subst (λ (u : Option (Result (Option V) X)). HasModified u) is modify.modified);
    refused = tt;
    full = (
      λ full. absurd (IfErr-at_err (λ (_ : Fault). ⊥) full tt),
      λ all. absurd (IfErr-at_err (λ (_ : Fault). ⊥) (modify.full.1 all) tt),
    );
    faults = tt;
  }
  got_ok uses used value modify (inr (none, nothing)) = record {
    got = subst (λ (v : Option V). IsFound same_key same_value ledger key time old new v) (sym nothing)
        (found_none (subst (λ (u : Option (Result (Option V) X)). HasModified u) none modify.modified));
    refused = tt;
    full = (
      λ full. absurd (IfErr-at_err (λ (_ : Fault). ⊥) full tt),
      λ all. absurd (IfErr-at_err (λ (_ : Fault). ⊥) (modify.full.1 all) tt),
    );
    faults = tt;
  }

  -- a get whose value could not be copied
  got_short : Uses → (used : Option (Result (Option V) X)) (fault : Fault) → HasTried (Ok used)
      → IsSomeAnd used IsErr → fault ≡ NoMemory → IsGot same_key same_value ledger key time old new (Err fault)
  got_short uses None fault modify short is = absurd short
  got_short uses (Some (Ok value)) fault modify short is = absurd (false≢true short)
  got_short uses (Some (Err error)) fault modify short is = record {
    got = tt;
    refused = inr (not_copied uses error modify.modified);
    full = (
      λ full. absurd (memory≢full (sym is ∙ fault_of {T = Option V} fault PassFull full)),
      λ all. absurd (IfErr-at_err (λ (_ : Fault). ⊥) (modify.full.1 all) tt),
    );
    faults = inl is;
  }

  -- a get that was refused
  pub got_refused : (fault : Fault) → HasTried (Err fault) → IsGot same_key same_value ledger key time old new (Err fault)
  got_refused fault modify = record {
    got = tt;
    refused = inl modify.refused;
    full = (
      λ full. modify.full.0 (same_fault {T = Option V} {U = Option (Result (Option V) X)} fault PassFull full),
      λ all. same_fault {T = Option (Result (Option V) X)} {U = Option V} fault PassFull (modify.full.1 all),
    );
    faults = modify.faults;
  }

  -- where no copy fails
  pub got_sure : (used : Option (Result (Option V) X)) (result : Result (Option V) Fault) → HasTried (Ok used)
      → OnErr result (IsSomeAnd used IsErr)
      → ((before : CacheEntry V) (answer : Result (Option V) X) (put : CacheEntry V) → left before answer put → IsOk answer)
      → IsMadeOrFull result
  got_sure used (Ok value) modify short never = tt
  got_sure None (Err fault) modify short never = absurd short
  got_sure (Some (Ok value)) (Err fault) modify short never = absurd (false≢true short)
  got_sure (Some (Err error)) (Err fault) modify short never =
      let (call, reply, called, (before, put, call_is, reply_is, did)) = modify.modified in
      absurd (false≢true (never before (Err error) put did))

  -- a get, by what came of the copy; the pass is then as it was after the call
  pub got_of : (used : Option (Result (Option V) X)) (result : Result (Option V) Fault)
      (end : PassView K (CacheEntry V) NoFunction) → HasTried (Ok used)
      → IfOk result (λ value. (used ≡ Some (Ok value)) ⊎ ((used ≡ None) × (value ≡ None)))
      → OnErr result (IsSomeAnd used IsErr) → IfErr result (λ fault. fault ≡ NoMemory) → end ≡ new → Uses
      → IsGot same_key same_value ledger key time old end result
  got_of used (Ok value) end modify is short fault_is same uses =
      subst (λ (p : PassView K (CacheEntry V) NoFunction). IsGot same_key same_value ledger key time old p (Ok value))
      (sym same) (got_ok uses used value modify is)
  got_of used (Err fault) end modify is short fault_is same uses =
      subst (λ (p : PassView K (CacheEntry V) NoFunction). IsGot same_key same_value ledger key time old p (Err fault))
      (sym same) (got_short uses used fault modify short fault_is)
