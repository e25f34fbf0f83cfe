-- A value that a function makes, where a key has none.
use Rattle.std.proofs.Common.{◌≡◌, ◌⊎◌, inl, inr, Bool, Option, Some, None, Result, Ok, Err}
use Rattle.std.proofs.Common.{rules, sym, ap, subst, ◌∙◌}
use Rattle.bin_history.specs.Sure.{IsNeverRefused}
use Rattle.bin_history.specs.declared.call.Call.{Call}
use Rattle.count_ledger.specs.Views.{LedgerView, PassView}
use Rattle.chm.specs.Given.{IsGive, IsGiven, left_by}
use Rattle.chm.specs.Refusals.{IsOfCall}
use Rattle.chm.specs.declared.calls.not_made.NotMade.{NotMade}
use Rattle.chm.specs.declared.calls.update.Change.{Change}
use Rattle.chm.specs.declared.calls.update.Change.TheVariants.{Keep, Set}
use Rattle.chm.specs.declared.fault.Fault.{Fault}
use Rattle.chm.specs.declared.fault.Fault.TheVariants.{NoMemory, PassFull}
use Rattle.clients.specs.Inserted.{FindsOrMakes, IsInserted, LeavesAll, LeavesFound}

module _ {V : Type 0} (made copies : V → Type 0) where
  found-left : (E : Type 0) (before : Option V) (change : Change V) (v : V) (left : Option V) → left ≡ left_by change before →
      FindsOrMakes {E = E} made copies before change (Ok v) → LeavesFound made before (left, v)
  found-left E (Some x) change v left is (kept, copy) =
      let stays : left ≡ Some x = is ∙ ap (λ (c : Change V). left_by c (Some x)) kept in
      λ i. (stays i, copy i)
  found-left E None change v left is (may, set) = (may, is ∙ ap (λ (c : Change V). left_by c None) set)

module _ {V E : Type 0} (made copies : V → Type 0) where
  all-left : (before : Option V) (change : Change V) (e : E) (left : Option V) → left ≡ left_by change before →
      FindsOrMakes made copies before change (Err e) → left ≡ before
  all-left (Some x) change e left is (kept, fails) = is ∙ ap (λ (c : Change V). left_by c (Some x)) kept
  all-left None change e left is (kept, fails) = is ∙ ap (λ (c : Change V). left_by c None) kept

  copy-fails : (before : Option V) (change : Change V) (e : E) → FindsOrMakes made copies before change (Err e) →
      IsNeverRefused copies → ⊥
  copy-fails (Some x) change e (kept, fails) never = fails never
  copy-fails None change e (kept, fails) never = fails never

  -- what a call that leaves a value and returns an answer has found, or what its function made
  abbrev pub Says : (Option V → Option V × Result V E → Type 0) → Type 0
  Says leaves = (before left : Option V) (answer : Result V E) → leaves before (left, answer) →
      (change : Change V) × (left ≡ left_by change before) × FindsOrMakes made copies before change answer

  module _ {K F : Type 0} (same_key : K → K → Bool) (same_value : V → V → Bool) (remapped : F → K → Option V → Option V)
      (merged : F → V → V → Option V) (ledger : LedgerView K V) (key : K) (old new : PassView K V F)
      (leaves : Option V → Option V × Result V E → Type 0) where
    given-found : (answer : Result V E) (v : V) → answer ≡ Ok v
        → IsGiven same_key same_value remapped merged leaves ledger key old new answer → Says leaves
        → IsGiven same_key same_value remapped merged (LeavesFound made) ledger key old new v
    given-found answer v is (before, left, so, called) says =
        let (change, left_is, found) = says before left answer so in (
          before,
          left,
          found-left made copies E before change v left left_is
              (subst (λ (r : Result V E). FindsOrMakes made copies before change r) is found),
          called,
        )

    given-all : (answer : Result V E) (e : E) → answer ≡ Err e
        → IsGiven same_key same_value remapped merged leaves ledger key old new answer → Says leaves
        → IsGiven same_key same_value remapped merged LeavesAll ledger key old new tt
    given-all answer e is (before, left, so, called) says =
        let (change, left_is, found) = says before left answer so in (
          before,
          left,
          all-left before change e left left_is
              (subst (λ (r : Result V E). FindsOrMakes made copies before change r) is found),
          called,
        )

    given-refused : (answer : Result V E) (e : E) → answer ≡ Err e
        → IsGiven same_key same_value remapped merged leaves ledger key old new answer → Says leaves
        → IsNeverRefused copies → ⊥
    given-refused answer e is (before, left, so, called) says never =
        let (change, left_is, found) = says before left answer so in
        copy-fails before change e (subst (λ (r : Result V E). FindsOrMakes made copies before change r) is found) never

    two-faults : NoMemory ≡ PassFull → ⊥
    two-faults e = search (rules, e)

    module _ {D : Type 0} (given : D) where
      pub inserted-found : (answer : Result V E) (v : V) → answer ≡ Ok v
          → IsGive same_key same_value remapped merged leaves ledger key given old new (Ok answer) → Says leaves
          → IsInserted same_key same_value remapped merged made copies ledger key old new (Ok v)
      inserted-found answer v is give says = record {
        inserted = given-found answer v is give.made says;
        failed = tt;
        refused = λ never. tt;
        full = (λ none. absurd none, λ full. absurd (give.full.1 full));
        faults = tt;
        sure = λ lean never none. absurd none;
      }

      pub inserted-not : (answer : Result V E) (e : E) (fault : Fault) → answer ≡ Err e → fault ≡ NoMemory
          → IsGive same_key same_value remapped merged leaves ledger key given old new (Ok answer) → Says leaves
          → IsInserted same_key same_value remapped merged made copies ledger key old new (Err fault)
      inserted-not answer e fault is out give says = record {
        inserted = tt;
        failed = inr (out, given-all answer e is give.made says);
        refused = λ never. absurd (given-refused answer e is give.made says never);
        full = (λ full. absurd (two-faults (sym out ∙ full)), λ full. absurd (give.full.1 full));
        faults = inl out;
        sure = λ lean never _. absurd (given-refused answer e is give.made says never);
      }

      pub inserted-never : (e : NotMade D) (fault : Fault) → fault ≡ e.fault
          → IsGive same_key same_value remapped merged leaves ledger key given old new (Err e)
          → IsInserted same_key same_value remapped merged made copies ledger key old new (Err fault)
      inserted-never e fault is give = record {
        inserted = tt;
        failed = inl give.refused;
        refused = λ never. give.refused;
        full = (λ full. give.full.0 (sym is ∙ full), λ full. is ∙ give.full.1 full);
        faults = subst IsOfCall (sym is) give.faults;
        sure = λ lean never out. give.sure lean (sym is ∙ out);
      }
