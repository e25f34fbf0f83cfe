-- Calls on a lean bin that need no memory.
use Rattle.std.proofs.Common.{◌≡◌, ◌<◌, Bool, true, false, Option, Some, None, is_some, option_copied, List, [], ◌∷◌, refl, ◌∙◌, arith}
use Rattle.std.proofs.lemmas.Bool.{true≢false}
use Rattle.std.specs.Borrow.{Bor}
use Rattle.bin_entries.specs.declared.key_arg.KeyArg.{KeyArg}
use Rattle.bin_entries.specs.declared.key_arg.KeyArg.TheVariants.{Owned, Borrowed}
use Rattle.bin_history.specs.Leans.{LeanView, as_bin, room_in_place}
use Rattle.bin_history.specs.Ops.{key_in}
use Rattle.bin_history.specs.Readiness.{value_seen}
use Rattle.bin_history.specs.Sure.{IsKept, IsSure, IsSpared}
use Rattle.bin_history.specs.declared.op.Op.{Op}
use Rattle.std.specs.declared.snapshot.Snapshot.{Snapshot}

-- a store that is not refused: the key is there, or it stays without a value, or it is the first
pub store_sure : {V P Q : Type 0} (found left : Option V) (there may : Bool) → is_some found ≡ there
    → (found ≡ None → may ≡ false → left ≡ None) → (found ≡ None → may ≡ true → Q)
    → ((there ≡ false → left ≡ None) → P) → (Q → P) → P
store_sure (Some v) left there may is keeps adds stores first = stores (λ absent. absurd (true≢false (is ∙ absent)))
store_sure None left there false is keeps adds stores first = stores (λ _. keeps refl refl)
store_sure None left there true is keeps adds stores first = first (adds refl refl)

pub seen_there : {V : Type 0} (seen : Option (Snapshot V)) → is_some (value_seen seen) ≡ is_some seen
seen_there None = refl
seen_there (Some x) = refl

pub copied_is_some : {V : Type 0} (o : Option (Bor V)) → is_some o ≡ is_some (option_copied o)
copied_is_some None = refl
copied_is_some (Some x) = refl

IsKept-of : {K : Type 0} (copies : K → Type 0) (key : KeyArg K) → copies (key_in key) → IsKept copies key
IsKept-of copies (Owned k) h = tt
IsKept-of copies (Borrowed r) h = h

none_beside : {X : Type 0} (xs : List X) → 0 < room_in_place xs → xs ≡ []
none_beside [] l = refl
none_beside (x ∷ xs) l = absurd (omega arith)

-- where nothing can be refused, no memory is needed
pub IsSpared-sure : {K V F : Type 0} (same : K → K → Bool) (key_copies : K → Type 0) (value_copies : V → Type 0)
    (l : LeanView K V) (key : KeyArg K) (op : Op V F)
    → IsSure same key_copies value_copies (as_bin l) (key_in key) op
    → IsSpared same (IsKept key_copies key) value_copies l.entries (key_in key) op
IsSpared-sure same key_copies value_copies l key op sure = record {
  values = λ _. sure.values;
  asks_none = sure.asks_none;
  adds = λ none may. (IsKept-of key_copies key sure.key, none_beside l.entries (sure.entry_room none may));
}
