-- Bytes in the room that a caller has.
use Rattle.std.specs.Prelude.{◌≡◌, ◌⊎◌, ℕ, ◌<◌, ◌≤◌, ◌++◌, List, length, take, drop, Option, Some, None, Result, Ok, Err}
use Rattle.bin_history.specs.declared.call.Reply.{Reply}
use Rattle.bin_history.specs.declared.call.Reply.TheVariants.{Value, Truth}
use Rattle.facing_maps.specs.Answers.{CallOutcome, code_of}
use Rattle.facing_maps.specs.Statuses.{facing_busy, facing_done, facing_no_room}

-- room that bytes were copied into: the first ones, as many as there is room for, and what is beyond them is as it was
abbrev pub copied : (bytes room : List ℕ) → List ℕ
copied bytes room = take (length room) bytes ++ drop (length bytes) room

-- the room after a value was copied into it, if there is one
abbrev pub found_room : Option (List ℕ) → List ℕ → List ℕ
found_room (Some value) room = copied value room
found_room None room = room

-- the room after the value of a reply was copied into it
abbrev pub reply_room : Reply (List ℕ) → List ℕ → List ℕ
reply_room (Value value) room = found_room value room
reply_room (Truth _) room = room

-- the room after a call; where the call was not made it is as it was
abbrev pub room_of : CallOutcome (List ℕ) → List ℕ → List ℕ
room_of (Ok (Some (Ok reply))) room = reply_room reply room
room_of (Ok (Some (Err _))) room = room
room_of (Ok None) room = room
room_of (Err _) room = room

-- all bytes are the room's first and the rest is as it was; or they find no room, nothing is copied, and the status
-- is facing_no_room
abbrev pub IsWhole : (bytes before after : List ℕ) → ℕ → Type 0
IsWhole bytes before after status =
    ((length bytes ≤ length before) × (status ≡ facing_done) × (after ≡ bytes ++ drop (length bytes) before))
    ⊎ ((length before < length bytes) × (status ≡ facing_no_room) × (after ≡ before))

-- the whole value is shown, if there is one; else the room is as it was, and the status is that of the call
abbrev pub IsShownWhole : CallOutcome (List ℕ) → (before after : List ℕ) → ℕ → Type 0
IsShownWhole (Ok (Some (Ok (Value (Some value))))) before after status = IsWhole value before after status
IsShownWhole (Ok (Some (Ok (Value None)))) before after status = (status ≡ facing_done) × (after ≡ before)
IsShownWhole (Ok (Some (Ok (Truth _)))) before after status = (status ≡ facing_done) × (after ≡ before)
IsShownWhole (Ok (Some (Err fault))) before after status = (status ≡ code_of fault) × (after ≡ before)
IsShownWhole (Ok None) before after status = (status ≡ facing_busy) × (after ≡ before)
IsShownWhole (Err other) before after status = (status ≡ other) × (after ≡ before)
