-- Changes of a value by what it is, of each kind of map, and what C is told.
use Rattle.std.specs.Prelude.{◌≡◌, ℕ, ◌≤◌, ⊤, nat_eq, cond, length, Option, Some, None, Err}
use Rattle.functions.specs.declared.nothing.NoFunction.{NoFunction}
use Rattle.facing_maps.specs.Changes.{ChangeReply, ChangeOutcome, exchange, add_up_to, longest_in, IsChanged, IsOrStays}
use Rattle.facing_maps.specs.Changes.{told_of, exchanged_by, added_by, seen_room}
use Rattle.facing_maps.specs.Functions.{remapped, merged, no_value}
use Rattle.facing_maps.specs.Keys.{Bytes, Key, key_of, same_key, same_bytes, AreAllowed, IsRefusal, IsRefusalOf}
use Rattle.facing_maps.specs.Stages.{status_in}
use Rattle.facing_maps.specs.Statuses.{facing_longest, facing_wrong_handle}
use Rattle.facing_maps.specs.declared.exchanged.FacingExchanged.{FacingExchanged}
use Rattle.facing_maps.specs.declared.merging.Merging.{Merging}
use Rattle.facing_maps.specs.declared.stage.Stage.{Stage}
use Rattle.facing_maps.specs.declared.status.FacingAnswer.{FacingAnswer}
use Rattle.chm.specs.declared.calls.update.Change.{Change}
use Rattle.seeded_keys.specs.Mixing.{mixed}
use Rattle.facing.specs.declared.target.Target.{Target}
use Rattle.facing.specs.declared.target.Target.TheVariants as target

-- a value that an export is given, or none where the number before it is 0
abbrev pub given : {V : Type 0} → ℕ → V → Option V
given has value = cond (nat_eq has 0) None (Some value)

-- how a change depends on the value that it sees
abbrev pub Changes : Type 0 → Type 1
Changes V = Option V → Change V × ChangeReply V → Type 0

-- a client of a map of numbers tried the change on the number that its seed makes of the key; anything else is as it was, and a wrong handle
abbrev pub IsNumberChanged : Target → Changes ℕ → ℕ → Target → ChangeOutcome ℕ → Type 0
IsNumberChanged (target.Numbers seed s) changes key then tried = (t : Stage ℕ ℕ Merging) × (then ≡ target.Numbers seed t)
    × IsChanged nat_eq nat_eq remapped merged ⊤ (λ _. ⊥) changes s (mixed seed key) t tried
IsNumberChanged other changes key then tried = (then ≡ other) × (tried ≡ Err facing_wrong_handle)

-- a client of a map from bytes to numbers tried it on the key that its seed makes of the bytes
abbrev pub IsCountChanged : Target → Changes ℕ → Bytes → Target → ChangeOutcome ℕ → Type 0
IsCountChanged (target.Counts seed s) changes key then tried = (t : Stage Key ℕ Merging) × (then ≡ target.Counts seed t)
    × IsChanged same_key nat_eq remapped merged (length key ≤ facing_longest) (IsRefusal (length key)) changes s
    (key_of seed key) t tried
IsCountChanged other changes key then tried = (then ≡ other) × (tried ≡ Err facing_wrong_handle)

-- a client of a map of bytes tried to exchange these values there, none of which is too long
abbrev pub IsBytesExchanged : Target → (expected value : Option Bytes) → Bytes → Target → ChangeOutcome Bytes → Type 0
IsBytesExchanged (target.Bytes seed s) expected value key then tried = (t : Stage Key Bytes NoFunction) × (then ≡ target.Bytes seed t)
    × IsChanged same_key same_bytes no_value no_value (AreAllowed key (longest_in expected value))
    (IsRefusalOf key (longest_in expected value)) (λ seen made. IsOrStays (exchange same_bytes expected value seen) made) s
    (key_of seed key) t tried
IsBytesExchanged other expected value key then tried = (then ≡ other) × (tried ≡ Err facing_wrong_handle)

-- C is told whether an exchange was made, and what was there
abbrev pub IsNumberExchangeTold : Target → (expected value : Option ℕ) → ℕ → Target → ℕ → (before after : FacingExchanged) →
    Type 0
IsNumberExchangeTold old expected value key new status before after = (tried : ChangeOutcome ℕ)
    × IsNumberChanged old (λ seen made. made ≡ exchange nat_eq expected value seen) key new tried
    × (status ≡ status_in (told_of tried)) × (after ≡ exchanged_by (λ v. v) (told_of tried) before)

abbrev pub IsCountExchangeTold : Target → (expected value : Option ℕ) → Bytes → Target → ℕ → (before after : FacingExchanged) →
    Type 0
IsCountExchangeTold old expected value key new status before after = (tried : ChangeOutcome ℕ)
    × IsCountChanged old (λ seen made. made ≡ exchange nat_eq expected value seen) key new tried
    × (status ≡ status_in (told_of tried)) × (after ≡ exchanged_by (λ v. v) (told_of tried) before)

-- the room, and the answer
abbrev pub Seen : Type 0
Seen = Bytes × FacingExchanged

abbrev pub IsBytesExchangeTold : Target → (expected value : Option Bytes) → Bytes → Target → ℕ → (before after : Seen) → Type 0
IsBytesExchangeTold old expected value key new status before after = (tried : ChangeOutcome Bytes)
    × IsBytesExchanged old expected value key new tried × (status ≡ status_in (told_of tried))
    × (after.0 ≡ seen_room (told_of tried) before.0) × (after.1 ≡ exchanged_by length (told_of tried) before.1)

-- C is told whether a sum was no more than its bound, and the value after
abbrev pub IsNumberAddTold : Target → (amount most key : ℕ) → Target → ℕ → (before after : FacingAnswer) → Type 0
IsNumberAddTold old amount most key new status before after = (tried : ChangeOutcome ℕ)
    × IsNumberChanged old (λ seen made. made ≡ add_up_to amount most seen) key new tried
    × (status ≡ status_in (told_of tried)) × (after ≡ added_by (told_of tried) before)

abbrev pub IsCountAddTold : Target → (amount most : ℕ) → Bytes → Target → ℕ → (before after : FacingAnswer) → Type 0
IsCountAddTold old amount most key new status before after = (tried : ChangeOutcome ℕ)
    × IsCountChanged old (λ seen made. made ≡ add_up_to amount most seen) key new tried
    × (status ≡ status_in (told_of tried)) × (after ≡ added_by (told_of tried) before)
