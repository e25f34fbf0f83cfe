-- A value that a function changed where it lies, as a call.
use Rattle.std.specs.Prelude.{◌≡◌, ℕ, Bool, false, Option, Some, None, MatchOption, List}
use Rattle.bin_history.specs.Entries.{lookup, put}
use Rattle.bin_history.specs.Leans.{LeanView, as_bin}
use Rattle.bin_history.specs.Made.{IsMadeOn}
use Rattle.bin_history.specs.Records.{RecordView}
use Rattle.bin_history.specs.declared.call.Call.TheVariants.{Contains, Put}
use Rattle.bin_history.specs.declared.call.Reply.TheVariants.{Truth, Value}
use Rattle.bin_history.specs.declared.in_place.Changed.{Changed}

module _ {K V : Type 0} (same_key : K → K → Bool) where
  -- with no value at the key nothing changed; else the function, which was lent the value before, left the one that was
  -- put there, and returned the answer
  abbrev pub IsSeenChange : {T : Type 0} → (V → T → V → Type 0) → K → List (K × V) → List (K × V) → Option (Changed V T) → Type 0
  IsSeenChange left key old new result =
      MatchOption result ((lookup same_key old key ≡ None) × (new ≡ old))
      (λ c. (lookup same_key old key ≡ Some c.before.value) × (new ≡ put same_key old key c.put.value)
      × (c.after.value ≡ c.put.value) × left c.before.value c.answer c.put.value)

module _ {K V F : Type 0} (same_key : K → K → Bool) (same_value : V → V → Bool) (remapped : F → K → Option V → Option V)
    (merged : F → V → V → Option V) where
  -- where the key had no value, its call is one that asks whether it has; else the function, which was lent this value,
  -- left that one and returned the answer, and the call is a put of what it left
  abbrev pub IsChangeMade : {T : Type 0} → (V → T → V → Type 0) → ℕ → ℕ → K → LeanView K V → LeanView K V → Option T →
      RecordView K V F → Type 0
  IsChangeMade left client ordinal key l m result r =
      MatchOption result
      (IsMadeOn same_key same_value remapped merged client ordinal (Contains key) (as_bin l) (as_bin m) (Truth false) r)
      (λ answer. (before : V) × (put : V) × left before answer put
      × IsMadeOn same_key same_value remapped merged client ordinal (Put key put) (as_bin l) (as_bin m) (Value (Some before)) r)
