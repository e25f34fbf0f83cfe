-- A change by a function that was shown the value at a key.
use Rattle.std.proofs.Common.{◌≡◌, ℕ, Bool, true, Option, Some, None, List, refl, sym, ap, subst, ◌∙◌}
use Rattle.std.proofs.lemmas.Bool.{true≢false}
use Rattle.std.proofs.lemmas.Option.{none-some}
use Rattle.std.specs.Prelude.{option_copied}
use Rattle.std.specs.Borrow.{Bor}
use Rattle.hashkeys.specs.Classes.{is_of}
use Rattle.bin_history.specs.Calls.{key_of}
use Rattle.bin_history.specs.Entries.{lookup}
use Rattle.bin_history.specs.Lawful.{BinView}
use Rattle.bin_history.specs.Ops.{call_on}
use Rattle.bin_history.specs.Records.{RecordView}
use Rattle.bin_history.specs.declared.call.Call.{Call}
use Rattle.bin_history.specs.declared.call.Reply.{Reply}
use Rattle.bin_history.specs.Sure.{IsSpared}
use Rattle.bin_history.specs.declared.op.Op.{Op}
use Rattle.bin_history.proofs.Changes.{key-call_on}
use Rattle.count_ledger.specs.Views.{LedgerView, PassView}
use Rattle.chm.specs.Headline.{IsMade}
use Rattle.chm.specs.Histories.{IsCalledOn}
use Rattle.chm.specs.Updates.{AnswersAt, IsUpdated, MayAdd, call_for, op_for}
use Rattle.chm.specs.declared.calls.update.Change.{Change}
use Rattle.chm.specs.declared.calls.update.Change.TheVariants as change

module _ {K V F T : Type 0} (same : K → K → Bool) (code : K → ℕ) (same_value : V → V → Bool) (remapped : F → K →
    Option V → Option V)
    (merged : F → V → V → Option V) where
  -- a call for the change that a function answered to the value at the key in the bin, before the call
  pub IsUpdated-called : (post : Option (Bor V) → Change V × T → Type 0) (ledger : LedgerView K V) (key : K)
      (op : Op V F) (change : Change V) (answer : T) (old new : PassView K V F) (reply : Reply V)
      (b left : BinView K V F) (shown : Option (Bor V))
      → IsCalledOn same code same_value remapped merged ledger b left (call_on key op) old new reply
      → call_on {K = K} {V = V} {F = F} key op ≡ call_for key change
      → is_of code ledger.salt b.class key ≡ true
      → option_copied shown ≡ lookup same b.entries key
      → post shown (change, answer)
      → IsUpdated same same_value remapped merged (λ before c. AnswersAt post before (c, answer)) ledger key old new
  IsUpdated-called post ledger key op change answer old new reply b left shown
      (front, r, is_front, made, met, before, stored) is on found answered =
      let found_is = before ∙ ap (lookup same b.entries) (key-call_on key op) in (
        front,
        r,
        change,
        reply,
        is_front,
        subst (λ (call : Call K V F). IsMade same_value remapped merged call old new reply front r) is made,
        found_is ∙ met.same_map key on,
        (shown, found ∙ sym found_is, answered),
      )

module _ {K V F T : Type 0} (same : K → K → Bool) (value_copies : V → Type 0) where
  -- where a call on a lean bin for the change was refused, the function was shown no value and set one
  pub MayAdd-refused : {kept : Type 0} (entries : List (K × V)) (key : K) (op : Op V F) (change : Change V) (answer : T)
      (shown : Option (Bor V)) (post : Option (Bor V) → Change V × T → Type 0)
      → op ≡ op_for change → (IsSpared same kept value_copies entries key op → ⊥)
      → option_copied shown ≡ lookup same entries key → post shown (change, answer) → MayAdd post
  MayAdd-refused {kept} entries key op change.Keep answer shown post is not found said =
      absurd (not (subst (λ (o : Op V F). IsSpared same kept value_copies entries key o) (sym is)
      (record { values = λ no. absurd (true≢false no); asks_none = refl; adds = λ none may. absurd (true≢false (sym may)) })))
  MayAdd-refused {kept} entries key op change.Remove answer shown post is not found said =
      absurd (not (subst (λ (o : Op V F). IsSpared same kept value_copies entries key o) (sym is)
      (record { values = λ no. absurd (true≢false no); asks_none = refl; adds = λ none may. absurd (true≢false (sym may)) })))
  MayAdd-refused {kept} entries key op (change.Set v) answer shown post is not found said =
      go (lookup same entries key) refl where
        go : (o : Option V) → lookup same entries key ≡ o → MayAdd post
        go None none = (v, answer, (shown, found ∙ none, said))
        go (Some w) some =
            absurd (not (subst (λ (o : Op V F). IsSpared same kept value_copies entries key o) (sym is)
            (record {
              values = λ no. absurd (true≢false no);
              asks_none = refl;
              adds = λ none may.
                  absurd (none-some w (sym none ∙ some));
            })))
