-- What a call at a key tells, by what it did and what it failed with.
use Rattle.std.proofs.Common.{◌≡◌, ℕ, ◌<◌, ◌≤◌, ◌⊎◌, ◌↔◌, inl, inr, Bool, true, false, Option, Some, None, length, refl, sym, ap}
use Rattle.std.proofs.Common.{subst, ◌∙◌, arith, rules}
use Rattle.std.proofs.Common.{Result, Ok, Err, IfOk, IfErr, IfSome}
use Rattle.std.proofs.lemmas.Result.{IfErr-at_err}
use Rattle.std.specs.Prelude.{IsErrOf, IsErrAnd}
use Rattle.std.specs.Borrow.{Bor}
use Rattle.bin_history.specs.declared.call.Call.{Call}
use Rattle.bin_history.specs.declared.call.Reply.{Reply}
use Rattle.bin_history.specs.declared.form.Form.TheVariants.{Lean}
use Rattle.count_ledger.specs.Limits.{most_calls}
use Rattle.count_ledger.specs.Views.{LedgerView, PassView}
use Rattle.chm.specs.AtKey.{IsCallAtKey}
use Rattle.chm.specs.Given.{IsBackOrUsed, IsGive, IsGiven, IsModified, IsModify, MayBeAbsent}
use Rattle.chm.specs.Headline.{IsAnsweredAs, IsCalled}
use Rattle.chm.specs.Refusals.{IsOfCall}
use Rattle.chm.specs.Sure.{IsMadeOrFull}
use Rattle.chm.specs.Updates.{AnswersAt, IsUpdate, IsUpdated, IsWithin, MayAdd}
use Rattle.chm.specs.declared.calls.not_made.NotMade.{NotMade}
use Rattle.chm.specs.declared.calls.update.Change.{Change}
use Rattle.chm.specs.declared.fault.Fault.{Fault}
use Rattle.chm.specs.declared.fault.Fault.TheVariants.{NoMemory, PassFull}

not_both : (n most : ℕ) → n < most → most ≤ n → ⊥
not_both n most below above = omega (arith, below, above)

are_two : NoMemory ≡ PassFull → ⊥
are_two e = search (rules, e)

-- what is so of what a try did, where it did something
pub if_tried : {T : Type 0} (P Q : T → Type 0) → ((x : T) → P x → Q x) → (tried : Option T) → IfSome tried P → IfSome tried Q
if_tried P Q tells None is = tt
if_tried P Q tells (Some x) is = tells x is

module _ {K V F T : Type 0} (does : LedgerView K V → PassView K V F → PassView K V F → T → Type 0)
    (fails : LedgerView K V → PassView K V F → Fault → Type 0) (ledger : LedgerView K V) (old new : PassView K V F)
    (why : (fault : Fault) → fails ledger old fault → fault ≡ NoMemory) where
  abbrev pub IsCall : Result T Fault → Type 0
  IsCall result = IsCallAtKey does fails (λ fault. fault ≡ PassFull) ledger old new result

  pub done_of : (result : Result T Fault) → IsCall result → IfOk result (does ledger old new)
  done_of (Ok answer) call = call.done.1
  done_of (Err fault) call = tt

  pub full_of : (result : Result T Fault) → IsCall result
      → IsErrOf result PassFull ↔ (most_calls ledger.form ledger.clients ≤ length old.made)
  full_of (Ok answer) call = (
    λ is. absurd (IfErr-at_err (λ (_ : Fault). ⊥) is tt),
    λ full. absurd (not_both (length old.made) (most_calls ledger.form ledger.clients) call.done.0 full),
  )
  full_of (Err fault) call = go call.failed where
    go : (IsWithin ledger old × fails ledger old fault)
        ⊎ ((most_calls ledger.form ledger.clients ≤ length old.made) × (fault ≡ PassFull))
        → IsErrOf {T = T} (Err fault) PassFull ↔ (most_calls ledger.form ledger.clients ≤ length old.made)
    go (inl (within, so)) = (
      λ is. absurd (are_two (sym (why fault so) ∙ IfErr-at_err (λ (f : Fault). fault ≡ f) is refl)),
      λ full. absurd (not_both (length old.made) (most_calls ledger.form ledger.clients) within full),
    )
    go (inr (full, is)) = (λ _. full, λ _. ap Err is)

  pub faults_of : (result : Result T Fault) → IsCall result → IfErr result IsOfCall
  faults_of (Ok answer) call = tt
  faults_of (Err fault) call = go call.failed where
    go : (IsWithin ledger old × fails ledger old fault)
        ⊎ ((most_calls ledger.form ledger.clients ≤ length old.made) × (fault ≡ PassFull)) → IsOfCall fault
    go (inl (within, so)) = inl (why fault so)
    go (inr (full, is)) = inr is

  -- why it was out of memory
  pub out_of : (result : Result T Fault) → IsCall result → IsErrOf result NoMemory → fails ledger old NoMemory
  out_of (Ok answer) call is = absurd (IfErr-at_err (λ (_ : Fault). ⊥) is tt)
  out_of (Err fault) call is = go call.failed where
    go : (IsWithin ledger old × fails ledger old fault)
        ⊎ ((most_calls ledger.form ledger.clients ≤ length old.made) × (fault ≡ PassFull)) → fails ledger old NoMemory
    go (inl (within, so)) = subst (fails ledger old) (why fault so) so
    go (inr (full, full_is)) =
        absurd (are_two (sym (IfErr-at_err (λ (f : Fault). fault ≡ f) is refl) ∙ full_is))

  -- where nothing can be refused
  pub sure_of : (result : Result T Fault) → IsCall result → (fails ledger old NoMemory → ⊥) → IsMadeOrFull result
  sure_of (Ok answer) call never = tt
  sure_of (Err fault) call never = go call.failed where
    go : (IsWithin ledger old × fails ledger old fault)
        ⊎ ((most_calls ledger.form ledger.clients ≤ length old.made) × (fault ≡ PassFull)) → fault ≡ PassFull
    go (inl (within, so)) = absurd (never (subst (fails ledger old) (why fault so) so))
    go (inr (full, is)) = is

module _ {K V F : Type 0} (same : K → K → Bool) (same_value : V → V → Bool) (remapped : F → K → Option V → Option V)
    (merged : F → V → V → Option V) (ledger : LedgerView K V) (old new : PassView K V F) where
  pub answered_of : (fails : LedgerView K V → PassView K V F → Fault → Type 0) (call : Call K V F)
      (why : (fault : Fault) → fails ledger old fault → fault ≡ NoMemory) (result : Result (Reply V) Fault)
      → IsCallAtKey (λ l o n reply. IsCalled same same_value remapped merged l call o n reply) fails
      (λ fault. fault ≡ PassFull) ledger old new result
      → IsAnsweredAs same same_value remapped merged (λ reply. reply) ledger call old new result
  answered_of fails call why result is =
      let does : LedgerView K V → PassView K V F → PassView K V F → Reply V → Type 0 =
      λ l o n reply. IsCalled same same_value remapped merged l call o n reply in
      record {
        called = done_of does fails ledger old new why result is;
        refused = is.same;
        full = full_of does fails ledger old new why result is;
        faults = faults_of does fails ledger old new why result is;
      }

  pub update_of : {T : Type 0} (post : Option (Bor V) → Change V × T → Type 0) (key : K) (result : Result T Fault)
      → IsCallAtKey (λ l o n answer. IsUpdated same same_value remapped merged
      (λ before change. AnswersAt post before (change, answer)) l key o n)
      (λ l o fault. (fault ≡ NoMemory) × (l.form ≡ Lean → MayAdd post)) (λ fault. fault ≡ PassFull) ledger old new result
      → IsUpdate same same_value remapped merged post ledger key old new result
  update_of {T} post key result is =
      let does : LedgerView K V → PassView K V F → PassView K V F → T → Type 0 =
      λ l o n answer. IsUpdated same same_value remapped merged
      (λ before change. AnswersAt post before (change, answer)) l key o n in
      let fails : LedgerView K V → PassView K V F → Fault → Type 0 =
      λ l o fault. (fault ≡ NoMemory) × (l.form ≡ Lean → MayAdd post) in
      record {
        updated = done_of does fails ledger old new (λ fault so. so.0) result is;
        refused = is.same;
        full = full_of does fails ledger old new (λ fault so. so.0) result is;
        faults = faults_of does fails ledger old new (λ fault so. so.0) result is;
        sets = λ lean out. (out_of does fails ledger old new (λ fault so. so.0) result is out).1 lean;
      }

  pub modify_of : {T : Type 0} (left : V → T → V → Type 0) (key : K) (result : Result (Option T) Fault)
      → IsCallAtKey (λ l o n answer. IsModified same same_value remapped merged left l key o n answer)
      (λ l o fault. (fault ≡ NoMemory) × (l.form ≡ Lean → ⊥)) (λ fault. fault ≡ PassFull) ledger old new result
      → IsModify same same_value remapped merged left ledger key old new result
  modify_of {T} left key result is =
      let does : LedgerView K V → PassView K V F → PassView K V F → Option T → Type 0 =
      λ l o n answer. IsModified same same_value remapped merged left l key o n answer in
      let fails : LedgerView K V → PassView K V F → Fault → Type 0 =
      λ l o fault. (fault ≡ NoMemory) × (l.form ≡ Lean → ⊥) in
      record {
        modified = done_of does fails ledger old new (λ fault so. so.0) result is;
        refused = is.same;
        full = full_of does fails ledger old new (λ fault so. so.0) result is;
        faults = faults_of does fails ledger old new (λ fault so. so.0) result is;
        sure = λ lean. sure_of does fails ledger old new (λ fault so. so.0) result is (λ so. so.1 lean);
      }

  module _ {T D : Type 0} (post : Option V → Option V × T → Type 0) (key : K) (given : D) where
    abbrev pub IsGivenCall : Result T (NotMade D) → Type 0
    IsGivenCall result = IsCallAtKey (λ l o n answer. IsGiven same same_value remapped merged post l key o n answer)
        (λ l o e. (e.fault ≡ NoMemory) × (l.form ≡ Lean → (e.given ≡ Some given)
        × MayBeAbsent same same_value remapped merged l key o) × IsBackOrUsed post given e.given)
        (λ e. (e.fault ≡ PassFull) × (e.given ≡ Some given)) ledger old new result

    pub give_of : (result : Result T (NotMade D)) → IsGivenCall result
        → IsGive same same_value remapped merged post ledger key given old new result
    give_of (Ok answer) is = record {
      made = is.done.1;
      refused = tt;
      full = (
        λ none. absurd none,
        λ full. absurd (not_both (length old.made) (most_calls ledger.form ledger.clients) is.done.0 full),
      );
      faults = tt;
      back = tt;
      sure = λ lean none. absurd none;
      full_back = tt;
      kept = tt;
    }
    give_of (Err e) is = go is.failed where
      go : (IsWithin ledger old × ((e.fault ≡ NoMemory) × (ledger.form ≡ Lean → (e.given ≡ Some given)
          × MayBeAbsent same same_value remapped merged ledger key old) × IsBackOrUsed post given e.given))
          ⊎ ((most_calls ledger.form ledger.clients ≤ length old.made) × ((e.fault ≡ PassFull) × (e.given ≡ Some given)))
          → IsGive same same_value remapped merged post ledger key given old new (Err e)
      go (inl (within, (out, back, kept))) = record {
        made = tt;
        refused = is.same;
        full = (
          λ full. absurd (are_two (sym out ∙ full)),
          λ full. absurd (not_both (length old.made) (most_calls ledger.form ledger.clients) within full),
        );
        faults = inl out;
        back = λ lean. (back lean).0;
        sure = λ lean _. (back lean).1;
        full_back = λ full. absurd (are_two (sym out ∙ full));
        kept = kept;
      }
      go (inr (most, (full, back))) = record {
        made = tt;
        refused = is.same;
        full = (λ _. most, λ _. full);
        faults = inr full;
        back = λ lean. back;
        sure = λ lean out. absurd (are_two (sym out ∙ full));
        full_back = λ _. back;
        kept = inl back;
      }
