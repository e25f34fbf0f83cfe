-- Calls by a function that is lent or given the value at a key.
use Rattle.std.proofs.Common.{◌≡◌, ℕ, Bool, true, false, Option, Some, None, MatchOption, is_some, IfSome, Result, Ok, Err}
use Rattle.std.proofs.Common.{OnErr, inl, inr, List, refl, sym, ap, subst, ◌∙◌}
use Rattle.hashkeys.specs.Classes.{is_of}
use Rattle.bin_history.specs.Calls.{after, key_of, reply}
use Rattle.bin_history.specs.Entries.{lookup}
use Rattle.bin_history.specs.InPlace.{IsChangeMade}
use Rattle.bin_history.specs.Lawful.{BinView}
use Rattle.bin_history.specs.Leans.{LeanView, as_bin}
use Rattle.bin_history.specs.Made.{IsMadeOn}
use Rattle.bin_history.specs.Readiness.{call_to}
use Rattle.bin_history.specs.Records.{RecordView}
use Rattle.bin_history.specs.declared.call.Call.{Call}
use Rattle.bin_history.specs.declared.call.Call.TheVariants.{Contains, Put}
use Rattle.bin_history.specs.declared.call.Reply.{Reply}
use Rattle.bin_history.specs.declared.call.Reply.TheVariants.{Truth, Value}
use Rattle.count_ledger.specs.Fronts.{IsFront}
use Rattle.count_ledger.specs.Views.{LedgerView, PassView}
use Rattle.chm.specs.Given.{IsBackOrUsed, IsGive, IsGiven, IsModified, MayBeAbsent}
use Rattle.chm.specs.Headline.{IsCalled}
use Rattle.chm.specs.Histories.{IsCalledOn, IsMet}
use Rattle.chm.specs.declared.calls.not_made.NotMade.{NotMade}
use Rattle.chm.proofs.Meeting.{IsCalled-met}

-- what is so of each error
pub on_err : {T E P : Type 0} (r : Result T E) → ((e : E) → r ≡ Err e → P) → OnErr r P
on_err (Ok x) so = tt
on_err (Err e) so = so e refl

pub key-call_to : {K V : Type 0} (F : Type 0) (k : K) (left : Option V) → key_of (call_to {F = F} k left) ≡ k
key-call_to F k None = refl
key-call_to F k (Some v) = refl

-- the reply to the call by which a key gets a value, or none
pub reply_to : {K V : Type 0} (F : Type 0) (same_value : V → V → Bool) (k : K) (left before after : Option V)
    → reply same_value (call_to {F = F} k left) before after ≡ Value before
reply_to F same_value k None before after = refl
reply_to F same_value k (Some v) before after = refl

-- there is no value
pub none_of : {V : Type 0} (o : Option V) → (is_some o ≡ true → ⊥) → o ≡ None
none_of None never = refl
none_of (Some v) never = absurd (never refl)

module _ {K V F : Type 0} (same : K → K → Bool) (code : K → ℕ) (same_value : V → V → Bool) (remapped : F → K →
    Option V → Option V)
    (merged : F → V → V → Option V) where
  -- a bin that the pass could meet had no value at the key
  pub may_be_absent : (ledger : LedgerView K V) (key : K) (old : PassView K V F) (b : BinView K V F)
      (front : List (RecordView K V F)) → is_of code ledger.salt b.class key ≡ true
      → IsFront same (after same_value remapped merged) ledger old front → IsMet same code ledger front b
      → (is_some (lookup same b.entries key) ≡ true → ⊥) → MayBeAbsent same same_value remapped merged ledger key old
  may_be_absent ledger key old b front on is_front met never =
      (front, is_front, sym (met.same_map key on) ∙ none_of (lookup same b.entries key) never)

module _ {K V F T : Type 0} (same : K → K → Bool) (same_value : V → V → Bool) (remapped : F → K → Option V → Option V)
    (merged : F → V → V → Option V) (left : V → T → V → Type 0) (key : K) where
  -- what the call of a modification was, and its reply
  abbrev pub IsCallOf : Option T → Call K V F → Reply V → Type 0
  IsCallOf result call reply = MatchOption result ((call ≡ Contains key) × (reply ≡ Truth false))
      (λ answer. (before : V) × (put : V) × (call ≡ Put key put) × (reply ≡ Value (Some before)) × left before answer put)

  pub change_call : (client ordinal : ℕ) (l m : LeanView K V) (result : Option T) (r : RecordView K V F)
      → IsChangeMade same same_value remapped merged left client ordinal key l m result r
      → (call : Call K V F) × (reply : Reply V) × (key_of call ≡ key)
      × IsMadeOn same same_value remapped merged client ordinal call (as_bin l) (as_bin m) reply r
      × IsCallOf result call reply
  change_call client ordinal l m None r made = (Contains key, Truth false, refl, made, (refl, refl))
  change_call client ordinal l m (Some answer) r (before, put, met, made) =
      (Put key put, Value (Some before), refl, made, (before, put, refl, refl, met))

module _ {K V F : Type 0} (same : K → K → Bool) (code : K → ℕ) (same_value : V → V → Bool) (remapped : F → K →
    Option V → Option V)
    (merged : F → V → V → Option V) (ledger : LedgerView K V) (key : K) (old new : PassView K V F) (b c : BinView K V F)
    (on : is_of code ledger.salt b.class key ≡ true) where
  -- a call on the bin that had this reply, whatever it said
  pub called_as : (call : Call K V F) (said want : Reply V) → key_of call ≡ key
      → ((before after : Option V) → before ≡ lookup same b.entries key → reply same_value call before after ≡ want)
      → IsCalledOn same code same_value remapped merged ledger b c call old new said
      → IsCalled same same_value remapped merged ledger call old new want
  called_as call said want at replies called =
      let (front, r, is_front, made, met, before, stored) = called in
      subst (λ (x : Reply V). IsCalled same same_value remapped merged ledger call old new x)
      (made.reply_is ∙ replies r.before r.after (before ∙ ap (lookup same b.entries) at))
      (IsCalled-met same code same_value remapped merged ledger call old new said b c called
      ((λ i. is_of code ledger.salt b.class (at i)) ∙ on))

module _ {K V F T : Type 0} (same : K → K → Bool) (code : K → ℕ) (same_value : V → V → Bool) (remapped : F → K →
    Option V → Option V)
    (merged : F → V → V → Option V) (ledger : LedgerView K V) (key : K) (old new : PassView K V F) (b c : BinView K V F)
    (on : is_of code ledger.salt b.class key ≡ true) where
  -- a function was given what the bin had at the key, and a call left what it returned
  pub given_by_call : (post : Option V → Option V × T → Type 0) (left : Option V) (answer : T) (call : Call K V F)
      (said : Reply V) → call ≡ call_to key left → post (lookup same b.entries key) (left, answer)
      → IsCalledOn same code same_value remapped merged ledger b c call old new said
      → IsGiven same same_value remapped merged post ledger key old new answer
  given_by_call post left answer call said is met called = (
    lookup same b.entries key,
    left,
    met,
    called_as same code same_value remapped merged ledger key old new b c on
        (call_to key left) said (Value (lookup same b.entries key)) (key-call_to F key left)
        (λ before after at. reply_to F same_value key left before after ∙ ap Value at)
        (subst (λ (x : Call K V F). IsCalledOn same code same_value remapped merged ledger b c x old new said) is called),
  )

  -- the bin had no value at the key
  pub modified_none : (left : V → T → V → Type 0) (said : Reply V) → lookup same b.entries key ≡ None
      → IsCalledOn same code same_value remapped merged ledger b c (Contains key) old new said
      → IsModified same same_value remapped merged left ledger key old new None
  modified_none left said none called = (
    Contains key,
    Truth false,
    called_as same code same_value remapped merged ledger key old new b c on
        (Contains key) said (Truth false) refl (λ before after at. ap (λ o. Truth (is_some o)) (at ∙ none)) called,
    (refl, refl),
  )

  -- a function was lent what the bin had at the key, and a put left what it left
  pub modified_some : (left : V → T → V → Type 0) (before put : V) (answer : T) (said : Reply V)
      → lookup same b.entries key ≡ Some before → left before answer put
      → IsCalledOn same code same_value remapped merged ledger b c (Put key put) old new said
      → IsModified same same_value remapped merged left ledger key old new (Some answer)
  modified_some left before put answer said some met called = (
    Put key put,
    Value (Some before),
    called_as same code same_value remapped merged ledger key old new b c on
        (Put key put) said (Value (Some before)) refl (λ found after at. ap Value (at ∙ some)) called,
    (before, put, refl, refl, met),
  )

module _ {K V F T D : Type 0} (same : K → K → Bool) (same_value : V → V → Bool) (remapped : F → K → Option V → Option V)
    (merged : F → V → V → Option V) (post want : Option V → Option V × T → Type 0) (ledger : LedgerView K V) (key : K)
    (given : D) (old new : PassView K V F)
    (tells : (before : Option V) (r : Option V × T) → post before r → want before r) where
  back_map : (back : Option D) → IsBackOrUsed post given back → IsBackOrUsed want given back
  back_map back (inl is) = inl is
  back_map back (inr (none, before, r, said)) = inr (none, before, r, tells before r said)

  -- what is said of the function in other words
  pub give_map : (result : Result T (NotMade D))
      → IsGive same same_value remapped merged post ledger key given old new result
      → IsGive same same_value remapped merged want ledger key given old new result
  give_map (Ok answer) give =
      let (before, left, said, called) = give.made in
      record {
        made = (before, left, tells before (left, answer) said, called);
        refused = tt;
        full = give.full;
        faults = tt;
        back = tt;
        sure = λ lean none. absurd none;
        full_back = tt;
        kept = tt;
      }
  give_map (Err e) give = record {
    made = tt;
    refused = give.refused;
    full = give.full;
    faults = give.faults;
    back = give.back;
    sure = give.sure;
    full_back = give.full_back;
    kept = back_map e.given give.kept;
  }

  pub try_give_map : (tried : Option (Result T (NotMade D)))
      → IfSome tried (IsGive same same_value remapped merged post ledger key given old new)
      → IfSome tried (IsGive same same_value remapped merged want ledger key given old new)
  try_give_map None give = tt
  try_give_map (Some result) give = give_map result give
