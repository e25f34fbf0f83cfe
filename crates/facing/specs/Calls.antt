-- Calls of clients of each kind, and what C is told.
use Rattle.std.specs.Prelude.{◌≡◌, ◌⊎◌, ℕ, ◌≤◌, ⊤, nat_eq, length, drop, Option, Some, is_some, Result, Ok, Err}
use Rattle.bin_history.specs.Calls.{after}
use Rattle.bin_history.specs.Ops.{call_on}
use Rattle.bin_history.specs.declared.call.Call.{Call}
use Rattle.bin_history.specs.declared.call.Reply.TheVariants.{Value, Truth}
use Rattle.bin_history.specs.declared.op.Op.{Op}
use Rattle.functions.specs.declared.nothing.NoFunction.{NoFunction}
use Rattle.facing_maps.specs.Answers.{CallOutcome, status_of, answer_by}
use Rattle.facing_maps.specs.Calls.{IsCalled, IsLooked}
use Rattle.facing_maps.specs.Functions.{remapped, merged, no_value}
use Rattle.facing_maps.specs.Keys.{Bytes, Key, key_of, same_key, same_bytes, longest, AreAllowed, IsRefusal, IsRefusalOf, IsTooLong}
use Rattle.facing_maps.specs.Rooms.{copied, room_of, IsShownWhole}
use Rattle.facing_maps.specs.Statuses.{facing_done, facing_longest, facing_no_memory, facing_wrong_handle}
use Rattle.facing_maps.specs.declared.merging.Merging.{Merging}
use Rattle.facing_maps.specs.declared.stage.Stage.{Stage}
use Rattle.facing_maps.specs.declared.status.FacingAnswer.{FacingAnswer}
use Rattle.seeded_keys.specs.Mixing.{mixed}
use Rattle.facing.specs.Handles.{IsFilled}
use Rattle.facing.specs.declared.handle.FacingOut.{FacingOut}
use Rattle.facing.specs.declared.target.Target.{Target}
use Rattle.facing.specs.declared.target.Target.TheVariants as target

-- a client of a map of numbers tried the call on the number that its seed makes of the key; anything else is as it was, and a wrong handle
abbrev pub IsNumberCalled : Target → (ℕ → Call ℕ ℕ Merging) → ℕ → Target → CallOutcome ℕ → Type 0
IsNumberCalled (target.Numbers seed s) call key then tried = (t : Stage ℕ ℕ Merging) × (then ≡ target.Numbers seed t)
    × IsCalled nat_eq nat_eq remapped merged ⊤ (λ _. ⊥) s (call (mixed seed key)) t tried
IsNumberCalled other call key then tried = (then ≡ other) × (tried ≡ Err facing_wrong_handle)

-- a client of a map from bytes to numbers tried the call on the key that its seed makes of the bytes
abbrev pub IsCountCalled : Target → (Key → Call Key ℕ Merging) → Bytes → Target → CallOutcome ℕ → Type 0
IsCountCalled (target.Counts seed s) call key then tried = (t : Stage Key ℕ Merging) × (then ≡ target.Counts seed t)
    × IsCalled same_key nat_eq remapped merged (length key ≤ facing_longest) (IsRefusal (length key)) s
    (call (key_of seed key)) t tried
IsCountCalled other call key then tried = (then ≡ other) × (tried ≡ Err facing_wrong_handle)

-- it looked at the number of that key, for which it needs no memory
abbrev pub IsCountLooked : Target → Bytes → Target → CallOutcome ℕ → Type 0
IsCountLooked (target.Counts seed s) key then tried = (t : Stage Key ℕ Merging) × (then ≡ target.Counts seed t)
    × IsLooked same_key (after nat_eq remapped merged) ⊤ Value (length key ≤ facing_longest) (IsTooLong (length key)) s
    (key_of seed key) t tried
IsCountLooked other key then tried = (then ≡ other) × (tried ≡ Err facing_wrong_handle)

abbrev pub IsCountAsked : Target → Bytes → Target → CallOutcome ℕ → Type 0
IsCountAsked (target.Counts seed s) key then tried = (t : Stage Key ℕ Merging) × (then ≡ target.Counts seed t)
    × IsLooked same_key (after nat_eq remapped merged) ⊤ (λ v. Truth (is_some v)) (length key ≤ facing_longest)
    (IsTooLong (length key)) s (key_of seed key) t tried
IsCountAsked other key then tried = (then ≡ other) × (tried ≡ Err facing_wrong_handle)

-- a client of a map of bytes tried the call on the key that its seed makes of the bytes
abbrev pub IsBytesCalled : Target → Op Bytes NoFunction → Bytes → Target → CallOutcome Bytes → Type 0
IsBytesCalled (target.Bytes seed s) op key then tried = (t : Stage Key Bytes NoFunction) × (then ≡ target.Bytes seed t)
    × IsCalled same_key same_bytes no_value no_value (AreAllowed key (longest op))
    (IsRefusalOf key (longest op)) s (call_on (key_of seed key) op) t tried
IsBytesCalled other op key then tried = (then ≡ other) × (tried ≡ Err facing_wrong_handle)

-- it looked at the value of that key, which has an owner more
abbrev pub IsBytesLooked : Target → Bytes → Target → CallOutcome Bytes → Type 0
IsBytesLooked (target.Bytes seed s) key then tried = (t : Stage Key Bytes NoFunction) × (then ≡ target.Bytes seed t)
    × IsLooked same_key (after same_bytes no_value no_value) ⊥ Value (length key ≤ facing_longest) (IsTooLong (length key)) s
    (key_of seed key) t tried
IsBytesLooked other key then tried = (then ≡ other) × (tried ≡ Err facing_wrong_handle)

abbrev pub IsBytesAsked : Target → Bytes → Target → CallOutcome Bytes → Type 0
IsBytesAsked (target.Bytes seed s) key then tried = (t : Stage Key Bytes NoFunction) × (then ≡ target.Bytes seed t)
    × IsLooked same_key (after same_bytes no_value no_value) ⊤ (λ v. Truth (is_some v)) (length key ≤ facing_longest)
    (IsTooLong (length key)) s (key_of seed key) t tried
IsBytesAsked other key then tried = (then ≡ other) × (tried ≡ Err facing_wrong_handle)

-- C is told what came of a try: the status, and the answer by what is told of a value
abbrev pub IsTold : {V : Type 0} → (V → ℕ) → CallOutcome V → ℕ → (before after : FacingAnswer) → Type 0
IsTold told tried status before after = (status ≡ status_of tried) × (after ≡ answer_by told tried before)

abbrev pub IsNumberTold : Target → (ℕ → Call ℕ ℕ Merging) → ℕ → Target → ℕ → (before after : FacingAnswer) → Type 0
IsNumberTold old call key new status before after =
    (tried : CallOutcome ℕ) × IsNumberCalled old call key new tried × IsTold (λ v. v) tried status before after

abbrev pub IsCountTold : Target → (Key → Call Key ℕ Merging) → Bytes → Target → ℕ → (before after : FacingAnswer) → Type 0
IsCountTold old call key new status before after =
    (tried : CallOutcome ℕ) × IsCountCalled old call key new tried × IsTold (λ v. v) tried status before after

abbrev pub IsCountShown : Target → Bytes → Target → ℕ → (before after : FacingAnswer) → Type 0
IsCountShown old key new status before after =
    (tried : CallOutcome ℕ) × IsCountLooked old key new tried × IsTold (λ v. v) tried status before after

abbrev pub IsCountHas : Target → Bytes → Target → ℕ → (before after : FacingAnswer) → Type 0
IsCountHas old key new status before after =
    (tried : CallOutcome ℕ) × IsCountAsked old key new tried × IsTold (λ v. v) tried status before after

-- what C is shown: the room, and the answer
abbrev pub Shown : Type 0
Shown = Bytes × FacingAnswer

-- a value that is the reply is shown as far as there is room for it
abbrev pub IsBytesTold : Target → Op Bytes NoFunction → Bytes → Target → ℕ → (before after : Shown) → Type 0
IsBytesTold old op key new status before after =
    (tried : CallOutcome Bytes) × IsBytesCalled old op key new tried × IsTold length tried status before.1 after.1
    × (after.0 ≡ room_of tried before.0)

abbrev pub IsTruthTold : Target → Op Bytes NoFunction → Bytes → Target → ℕ → (before after : FacingAnswer) → Type 0
IsTruthTold old op key new status before after =
    (tried : CallOutcome Bytes) × IsBytesCalled old op key new tried × IsTold length tried status before after

abbrev pub IsBytesHas : Target → Bytes → Target → ℕ → (before after : FacingAnswer) → Type 0
IsBytesHas old key new status before after =
    (tried : CallOutcome Bytes) × IsBytesAsked old key new tried × IsTold length tried status before after

-- a value is shown whole, or not at all; its length is told
abbrev pub IsBytesShown : Target → Bytes → Target → ℕ → (before after : Shown) → Type 0
IsBytesShown old key new status before after =
    (tried : CallOutcome Bytes) × IsBytesLooked old key new tried × IsShownWhole tried before.0 after.0 status
    × (after.1 ≡ answer_by length tried before.1)

-- room for a handle, and the answer
abbrev pub Given : Type 0
Given = FacingOut × FacingAnswer

-- a value that was found has an owner more, which the handle is, or there was no memory for it; else it is told what came
-- of the look
abbrev pub IsHeldAs : CallOutcome Bytes → ℕ → (before after : Given) → Type 0
IsHeldAs (Ok (Some (Ok (Value (Some value))))) status before after =
    ((status ≡ facing_done) × IsFilled after.0.ptr × (after.0.target ≡ target.Held value)
    × (after.1 ≡ record { found = 1; value = length value }))
    ⊎ ((status ≡ facing_no_memory) × (after.0 ≡ before.0) × (after.1 ≡ before.1))
IsHeldAs tried status before after = (after.0 ≡ before.0) × IsTold length tried status before.1 after.1

abbrev pub IsHeld : Target → Bytes → Target → ℕ → (before after : Given) → Type 0
IsHeld old key new status before after =
    (tried : CallOutcome Bytes) × IsBytesLooked old key new tried × IsHeldAs tried status before after

-- of a value that is held the bytes from this place on are the room's first, as many as there is room for, and its length
-- is told; anything else is a wrong handle, and all is as it was
abbrev pub IsRead : Target → ℕ → ℕ → (before after : Shown) → Type 0
IsRead (target.Held value) from status before after = (status ≡ facing_done) × (after.0 ≡ copied (drop from value) before.0)
    × (after.1 ≡ record { found = 1; value = length value })
IsRead _ from status before after = (status ≡ facing_wrong_handle) × (after ≡ before)
