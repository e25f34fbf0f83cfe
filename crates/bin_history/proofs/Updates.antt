-- A value that a function was given, in a lean bin.
use Rattle.std.proofs.Common.{◌≡◌, ℕ, Bool, Option, Some, None, refl, sym, ap, ◌∙◌}
use Rattle.std.proofs.Common.{Result, Ok, Err, OnErr}
use Rattle.bin_entries.proofs.Entries.{store_same}
use Rattle.bin_history.specs.Entries.{lookup, store}
use Rattle.bin_history.specs.Leans.{LeanView, as_bin}
use Rattle.bin_history.specs.Made.{IsMadeOn}
use Rattle.bin_history.specs.Readiness.{call_to}
use Rattle.bin_history.specs.Records.{RecordView}
use Rattle.bin_history.specs.declared.call.Call.TheVariants.{Put, Remove}
use Rattle.bin_history.specs.declared.call.Reply.{Reply}
use Rattle.bin_history.specs.declared.call.Reply.TheVariants.{Value}
use Rattle.bin_history.proofs.Leans.{IsMadeOn-lean}

module _ {K V F : Type 0} (same : K → K → Bool) (same_value : V → V → Bool) (remapped : F → K → Option V → Option V)
    (merged : F → V → V → Option V) (client ordinal : ℕ) (key : K) (l m : LeanView K V) where
  -- the call by which the key got a value, or none
  pub updated-lean : (left : Option V) (r : RecordView K V F) → r.client ≡ client → r.ordinal ≡ ordinal →
      r.call ≡ call_to key left → r.before ≡ lookup same l.entries key → r.after ≡ left →
      m.entries ≡ store same l.entries key left →
      IsMadeOn same same_value remapped merged client ordinal (call_to key left) (as_bin l) (as_bin m)
      (Value (lookup same l.entries key)) r
  updated-lean None r by next of before after stored =
      IsMadeOn-lean same same_value remapped merged client ordinal (Remove key) l m (lookup same l.entries key) None
      (Value (lookup same l.entries key)) r refl refl by next of before after refl stored
  updated-lean (Some v) r by next of before after stored =
      IsMadeOn-lean same same_value remapped merged client ordinal (Put key v) l m (lookup same l.entries key) (Some v)
      (Value (lookup same l.entries key)) r refl refl by next of before after refl stored

  stored_as : (left : Option V) (answer : Reply V) (r : RecordView K V F) →
      IsMadeOn same same_value remapped merged client ordinal (call_to key left) (as_bin l) (as_bin m) answer r →
      m.entries ≡ store same l.entries key left
  stored_as None answer r made = made.stored ∙ ap (store same l.entries key) made.left
  stored_as (Some v) answer r made = made.stored ∙ ap (store same l.entries key) made.left

  -- a function that failed, and left the value as it was, changed nothing
  pub kept_lean : {T E : Type 0} (left : Option V) (result : Result T E) (answer : Reply V) (r : RecordView K V F) →
      ((error : E) → result ≡ Err error → left ≡ lookup same l.entries key) →
      IsMadeOn same same_value remapped merged client ordinal (call_to key left) (as_bin l) (as_bin m) answer r →
      OnErr result (m.entries ≡ l.entries)
  kept_lean left (Ok x) answer r keeps made = tt
  kept_lean left (Err e) answer r keeps made =
      stored_as left answer r made ∙ store_same same l.entries key left (sym (keeps e refl))
