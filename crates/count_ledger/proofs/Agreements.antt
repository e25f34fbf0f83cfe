-- A bin and its role go on agreeing through each step.
use Rattle.std.proofs.Common.{◌≡◌, ℕ, Bool, Option, Decides, List, [], ◌++◌, length, pos, ◌+ℤ◌, sym, ap, subst, ◌∙◌}
use Rattle.hashkeys.specs.Classes.{ClassView, is_of}
use Rattle.bin_history.specs.BinPart.{IsPartOf}
use Rattle.bin_history.specs.Calls.{key_of, after}
use Rattle.bin_history.specs.Deltas.{sum_of_deltas}
use Rattle.bin_history.specs.Entries.{lookup, HasDistinctKeys, replay}
use Rattle.bin_history.specs.Histories.{HasHistory, GoesOn}
use Rattle.bin_history.specs.Lawful.{BinView, IsLawful}
use Rattle.bin_history.specs.Made.{IsMadeOn}
use Rattle.bin_history.specs.Part.{part_of_entries, part_of_records}
use Rattle.bin_history.specs.Plain.{run, IsLegal, IsLegalStep}
use Rattle.bin_history.specs.Readiness.{KeepsOrFolds}
use Rattle.bin_history.specs.declared.call.Call.{Call}
use Rattle.bin_history.specs.declared.call.Reply.{Reply}
use Rattle.bin_history.specs.Records.{RecordView}
use Rattle.bin_history.proofs.Counts.{length-replay}
use Rattle.bin_history.proofs.Histories.{HasHistory-new, HasHistory-gone_on, HasHistory-prepared, HasHistory-part}
use Rattle.bin_history.proofs.Histories.{HasHistory-replay}
use Rattle.bin_history.proofs.Runs.{lookup-replay}
use Rattle.count_ledger.specs.Agreement.{BinAgrees, part_of_role}
use Rattle.count_ledger.specs.Views.{RoleView}

module _ {K V F : Type 0} (same : K → K → Bool) (tells : (x y : K) → Decides (same x y) (x ≡ y)) (code : K → ℕ)
    (after : Call K V F → Option V → Option V) where
  pub BinAgrees-new : (b : BinView K V F) (r : RoleView K V F) → b.class ≡ r.class → b.salt ≡ r.salt →
      HasDistinctKeys same b.base → b.base ≡ r.opening
      → b.records ≡ [] → r.kept ≡ [] → BinAgrees same after b r
  BinAgrees-new b r class salt distinct base records kept = record {
    class = class;
    salt = salt;
    history = rw (kept, ← base) (HasHistory-new same tells code after b distinct records);
  }

  pub BinAgrees-gone_on : (b c : BinView K V F) (r s : RoleView K V F) (more : List (RecordView K V F))
      → BinAgrees same after b r → c.class ≡ b.class → c.salt ≡ b.salt → GoesOn same after b more c →
      s ≡ record r { kept = r.kept ++ more }
      → BinAgrees same after c s
  BinAgrees-gone_on b c r s more a class salt on is =
      rw is (record {
        class = class ∙ a.class;
        salt = salt ∙ a.salt;
        history = HasHistory-gone_on same tells code after r.opening r.kept b c more a.history on;
      })

  pub BinAgrees-prepared : (b c : BinView K V F) (r : RoleView K V F) → BinAgrees same after b r →
      IsLawful same code after b → c.class ≡ b.class
      → c.salt ≡ b.salt → KeepsOrFolds same b c → BinAgrees same after c r
  BinAgrees-prepared b c r a lawful class salt folds = record {
    class = class ∙ a.class;
    salt = salt ∙ a.salt;
    history = HasHistory-prepared same tells code after r.opening r.kept b c a.history lawful.legal folds;
  }

  pub BinAgrees-divided : (b c : BinView K V F) (r s : RoleView K V F) (half : ClassView → ClassView) →
      BinAgrees same after b r → c.class ≡ half b.class
      → IsPartOf code b c → s ≡ part_of_role code (half r.class) r → BinAgrees same after c s
  BinAgrees-divided b c r s half a class part is =
      let own : c.class ≡ half r.class = class ∙ ap half a.class in
      let H : ClassView → Type 0 = λ k. HasHistory same after (part_of_entries (is_of code b.salt k) r.opening)
      (part_of_records (is_of code b.salt k) r.kept) c in
      rw is (record {
        class = own;
        salt = part.salt ∙ a.salt;
        history =
            rw (← a.salt) (subst H own (HasHistory-part same tells code after r.opening r.kept b c a.history part));
      })

  pub BinAgrees-replay : (b : BinView K V F) (r : RoleView K V F) → BinAgrees same after b r →
      IsLawful same code after b
      → b.entries ≡ replay same b.base b.records → IsLegal same after (lookup same r.opening) r.kept
      × (b.entries ≡ replay same r.opening r.kept)
  BinAgrees-replay b r a lawful replayed =
      HasHistory-replay same tells code after r.opening r.kept b a.history lawful.legal replayed

  -- its map is the one that the role's records leave
  pub BinAgrees-map : (b : BinView K V F) (r : RoleView K V F) → BinAgrees same after b r → IsLawful same code after b
      → b.entries ≡ replay same b.base b.records → lookup same b.entries ≡ run same (lookup same r.opening) r.kept
  BinAgrees-map b r a lawful replayed =
      ap (lookup same) (BinAgrees-replay b r a lawful replayed).1
      ∙ lookup-replay same tells r.opening r.kept a.history.1.distinct

  pub BinAgrees-count : (b : BinView K V F) (r : RoleView K V F) → BinAgrees same after b r → IsLawful same code after b
      → b.entries ≡ replay same b.base b.records →
      pos (length b.entries) ≡ pos (length r.opening) +ℤ sum_of_deltas r.kept
  BinAgrees-count b r a lawful replayed =
      let (legal, is) = BinAgrees-replay b r a lawful replayed in
      ap (λ (es : List (K × V)). pos (length es)) is
      ∙ length-replay same tells after r.opening r.kept a.history.1.distinct legal

module _ {K V F : Type 0} (same : K → K → Bool) (tells : (x y : K) → Decides (same x y) (x ≡ y)) (code : K → ℕ)
    (same_value : V → V → Bool) (remapped : F → K → Option V → Option V) (merged : F → V → V → Option V) where
  -- a call that was made on a bin is one on what the role's records leave
  pub IsLegalStep-made : {client ordinal : ℕ} {call : Call K V F} {c : BinView K V F} {answer : Reply V}
      (b : BinView K V F) (r : RoleView K V F) (x : RecordView K V F)
      → BinAgrees same (after same_value remapped merged) b r
      → IsLawful same code (after same_value remapped merged) b → b.entries ≡ replay same b.base b.records
      → IsMadeOn same same_value remapped merged client ordinal call b c answer x
      → IsLegalStep same (after same_value remapped merged) (run same (lookup same r.opening) r.kept) x
  IsLegalStep-made b r x a lawful replayed made =
      let then = after same_value remapped merged in
      let map = BinAgrees-map same tells code then b r a lawful replayed in (
        made.found ∙ (λ i. map i (key_of (sym made.call_is i))),
        made.left ∙ ap (λ (call : Call K V F). then call x.before) (sym made.call_is),
      )
