-- Changes of a value by what it is, under one lock.
use Rattle.std.specs.Prelude.{◌≡◌, ◌⊎◌, ℕ, ◌+◌, nat_le, max, length, Bool, true, false, cond, Option, None, Some, option_copied}
use Rattle.std.specs.Prelude.{List, Result, Ok, Err, IfOk, IfErr, IfSome, IfNone}
use Rattle.std.specs.Allocator.{alloc_error}
use Rattle.std.specs.declared.alloc.AllocError.{AllocError}
use Rattle.count_ledger.specs.Views.{LedgerView, PassView}
use Rattle.chm.specs.Updates.{IsUpdate}
use Rattle.chm.specs.declared.calls.update.Change.{Change}
use Rattle.chm.specs.declared.calls.update.Change.TheVariants.{Keep, Set, Remove}
use Rattle.chm.specs.declared.fault.Fault.{Fault}
use Rattle.clients.specs.Clients.{ClientView}
use Rattle.facing_maps.specs.Answers.{code_of, found_by}
use Rattle.facing_maps.specs.Rooms.{found_room}
use Rattle.facing_maps.specs.Statuses.{facing_busy, facing_no_memory, facing_wrong_handle}
use Rattle.facing_maps.specs.declared.changing.Changed.{Changed}
use Rattle.facing_maps.specs.declared.exchanged.FacingExchanged.{FacingExchanged}
use Rattle.facing_maps.specs.declared.stage.Stage.{Stage}
use Rattle.facing_maps.specs.declared.stage.Stage.TheVariants as stage
use Rattle.facing_maps.specs.declared.status.FacingAnswer.{FacingAnswer}

-- what a change tells, or that there was no memory to tell it
abbrev pub ChangeReply : Type 0 → Type 0
ChangeReply V = Result (Changed V) AllocError

-- what came of a change that was to be tried: what it told, or why it was refused, or nothing where another was in its
-- way; or the status for which it was not tried
abbrev pub ChangeOutcome : Type 0 → Type 0
ChangeOutcome V = Result (Option (Result (ChangeReply V) Fault)) ℕ

-- == What changes there are ==

-- the change to a value, or to none
abbrev pub change_to : {V : Type 0} → Option V → Change V
change_to (Some value) = Set value
change_to None = Remove

-- whether these are the same value, or both are none
abbrev pub is_same : {V : Type 0} → (V → V → Bool) → Option V → Option V → Bool
is_same same None None = true
is_same same (Some x) (Some y) = same x y
is_same same None (Some _) = false
is_same same (Some _) None = false

-- an exchange: where what is seen is what is expected, the change to the new value; it tells whether it was so, and what
-- was seen
abbrev pub exchange : {V : Type 0} → (V → V → Bool) → (expected value seen : Option V) → Change V × ChangeReply V
exchange same expected value seen = cond (is_same same seen expected)
    (change_to value, Ok (record { made = true; value = seen }))
    (Keep, Ok (record { made = false; value = seen }))

-- a number, or 0 where there is none
abbrev pub number_in : Option ℕ → ℕ
number_in (Some n) = n
number_in None = 0

-- a sum up to a bound: where it is no more than that, the change to it; it tells whether it was so, and the value after
abbrev pub add_up_to : (amount most : ℕ) → Option ℕ → Change ℕ × ChangeReply ℕ
add_up_to amount most seen = cond (nat_le (number_in seen + amount) most)
    (Set (number_in seen + amount), Ok (record { made = true; value = Some (number_in seen + amount) }))
    (Keep, Ok (record { made = false; value = seen }))

-- how many bytes there are, if any, and how many the longer of two has
abbrev pub length_in : Option (List ℕ) → ℕ
length_in (Some bytes) = length bytes
length_in None = 0

abbrev pub longest_in : (expected value : Option (List ℕ)) → ℕ
longest_in expected value = max (length_in expected) (length_in value)

-- the change is this one; or there was no memory to tell it, and the value stays
abbrev pub IsOrStays : {V : Type 0} → Change V × ChangeReply V → Change V × ChangeReply V → Type 0
IsOrStays change made = (made ≡ change) ⊎ (made ≡ (Keep, Err alloc_error))

-- == What comes of them ==

module _ {K V F : Type 0} (same_key : K → K → Bool) (same_value : V → V → Bool)
    (remapped : F → K → Option V → Option V) (merged : F → V → V → Option V)
    (IsAllowed : Type 0) (IsRefused : ℕ → Type 0) (changes : Option V → Change V × ChangeReply V → Type 0) where
  -- the change, where it is allowed, was made as a map's update is, by the value that all calls before had left at the key;
  -- or it was not made, and the pass is as it was
  pub record IsChangeTried (ledger : LedgerView K V) (key : K) (old new : PassView K V F) (tried : ChangeOutcome V) :
      Type 0 where
    pub updated : IfOk tried (λ t. IfSome t (IsUpdate same_key same_value remapped merged
        (λ shown made. changes (option_copied shown) made) ledger key old new))
    pub busy : IfOk tried (λ t. IfNone t (new ≡ old))
    pub allowed : IfOk tried (λ _. IsAllowed)
    pub same : IfErr tried (λ _. new ≡ old)
    pub refused : IfErr tried IsRefused

  -- what was a client is the client that tried the change, on the same map; anything else is as it was, and a wrong handle
  abbrev pub IsChanged : Stage K V F → K → Stage K V F → ChangeOutcome V → Type 0
  IsChanged (stage.Client c) key then tried = (d : ClientView K V F) × (then ≡ stage.Client d) × (d.map ≡ c.map)
      × IsChangeTried c.map.ledger key c.pass d.pass tried
  IsChanged other key then tried = (then ≡ other) × (tried ≡ Err facing_wrong_handle)

-- == What C is told ==

-- what a change told, or the status for which it told nothing
abbrev pub told_of : {V : Type 0} → ChangeOutcome V → Result (Changed V) ℕ
told_of (Ok (Some (Ok (Ok changed)))) = Ok changed
told_of (Ok (Some (Ok (Err _)))) = Err facing_no_memory
told_of (Ok (Some (Err fault))) = Err (code_of fault)
told_of (Ok None) = Err facing_busy
told_of (Err status) = Err status

abbrev pub one_if : Bool → ℕ
one_if true = 1
one_if false = 0

-- of an exchange: whether it was made, and what was seen; where it told nothing the answer is as it was
abbrev pub exchanged_by : {V : Type 0} → (V → ℕ) → Result (Changed V) ℕ → FacingExchanged → FacingExchanged
exchanged_by told (Ok changed) before = record {
  made = one_if changed.made;
  found = (found_by told changed.value).found;
  value = (found_by told changed.value).value;
}
exchanged_by told (Err _) before = before

-- of a sum up to a bound: whether it was added, and the value after
abbrev pub added_by : Result (Changed ℕ) ℕ → FacingAnswer → FacingAnswer
added_by (Ok changed) before = record { found = one_if changed.made; value = number_in changed.value }
added_by (Err _) before = before

-- the room after what was seen was copied into it
abbrev pub seen_room : Result (Changed (List ℕ)) ℕ → List ℕ → List ℕ
seen_room (Ok changed) room = found_room changed.value room
seen_room (Err _) room = room
