-- A value that a function was given, as a call.
use Rattle.std.specs.Prelude.{◌≡◌, ℕ, Bool, true, Option, Some, None, is_some, unwrap_or, List}
use Rattle.bin_entries.specs.Rooms.{HasRoom}
use Rattle.bin_history.specs.Entries.{lookup}
use Rattle.bin_history.specs.Leans.{LeanView, as_bin}
use Rattle.bin_history.specs.Made.{IsMadeOn}
use Rattle.bin_history.specs.Readiness.{call_to, value_seen}
use Rattle.bin_history.specs.Records.{RecordView}
use Rattle.bin_history.specs.declared.call.Reply.TheVariants.{Value}
use Rattle.bin_history.specs.declared.prepared.Prepared.{Prepared}
use Rattle.bin_history.specs.declared.prepared.Prepared.TheVariants.{Sought, New}
use Rattle.bin_history.specs.declared.update.Updated.{Updated}

-- the key of an update that was prepared
abbrev pub prepared_key : {K V A Q : Type 0} → (Q → K) → Prepared K V A Q → K
prepared_key stands_for (Sought query) = stands_for query
prepared_key stands_for (New key room) = key

-- the key has an entry among these, or has none, and there is room for one
abbrev pub HasPlace : {K V A Q : Type 0} → (K → K → Bool) → (Q → K) → List (K × V) → Prepared K V A Q → Type 0
HasPlace same_key stands_for entries (Sought query) = is_some (lookup same_key entries (stands_for query)) ≡ true
HasPlace same_key stands_for entries (New key room) = (lookup same_key entries key ≡ None) × HasRoom room entries

-- the function, which was given this value, or none, returned that one, and all this was seen
abbrev pub IsUpdateSeen : {V T : Type 0} → (Option V → Option V × T → Type 0) → Option V → Option V × Updated V T → Type 0
IsUpdateSeen post before r =
    (value_seen r.1.before ≡ before) × (value_seen r.1.put ≡ r.0) × (value_seen r.1.after ≡ r.0) × post before (r.0, r.1.answer)

-- the function, which was lent this value, or else the default, left that one, and returned the answer
abbrev pub LeavesSome : {V T : Type 0} → (V → T → V → Type 0) → V → Option V → Option V × T → Type 0
LeavesSome {V} left default before r = (after : V) × (r.0 ≡ Some after) × left (unwrap_or before default) r.1 after

module _ {K V F : Type 0} (same_key : K → K → Bool) (same_value : V → V → Bool) (remapped : F → K → Option V → Option V)
    (merged : F → V → V → Option V) where
  -- the function, which was given the value at the key, or none, returned what the key has now, and the answer: a put of
  -- it, or a remove
  abbrev pub IsUpdateMade : {T : Type 0} → (Option V → Option V × T → Type 0) → ℕ → ℕ → K → LeanView K V → LeanView K V → T →
      RecordView K V F → Type 0
  IsUpdateMade post client ordinal key l m answer r =
      (left : Option V) × post (lookup same_key l.entries key) (left, answer)
      × IsMadeOn same_key same_value remapped merged client ordinal (call_to key left) (as_bin l) (as_bin m)
      (Value (lookup same_key l.entries key)) r
