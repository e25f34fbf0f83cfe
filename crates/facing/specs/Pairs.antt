-- Pairs of a bucket, as C is told of them.
use Rattle.std.specs.Prelude.{◌≡◌, ◌⊎◌, ℕ, ◌<◌, List, [], length, min, nat_eq, Option, Some, None, Result, Ok, Err}
use Rattle.functions.specs.declared.nothing.NoFunction.{NoFunction}
use Rattle.hashkeys.specs.Numbers.{number_code}
use Rattle.bin_history.specs.Calls as calls
use Rattle.facing_maps.specs.Functions.{greatest_number, remapped, merged, no_value}
use Rattle.facing_maps.specs.Keys.{Bytes, Key, same_key, same_bytes, code_in}
use Rattle.facing_maps.specs.Pairs.{AreNumbers, AreCopied, bytes_of, Seen, IsSeen}
use Rattle.facing_maps.specs.Statuses.{facing_done, facing_no_room, facing_wrong_handle}
use Rattle.facing_maps.specs.declared.merging.Merging.{Merging}
use Rattle.facing_maps.specs.declared.stage.Stage.{Stage}
use Rattle.facing_maps.specs.declared.status.FacingAnswer.{FacingAnswer}
use Rattle.seeded_keys.specs.Mixing.{unmixed}
use Rattle.facing.specs.declared.pairs.FacingSizes.{FacingSizes}
use Rattle.facing.specs.declared.target.Target.{Target}
use Rattle.facing.specs.declared.target.Target.TheVariants as target

-- all pairs were copied, or there was no room for all
abbrev pub IsCopyStatus : ℕ → ℕ → ℕ → Type 0
IsCopyStatus n all status = ((status ≡ facing_done) × (n ≡ all)) ⊎ ((status ≡ facing_no_room) × (n < all))

-- the number that a walk goes on at, two rooms, and the answer
abbrev pub ChangeReply : Type 0
ChangeReply = ℕ × List ℕ × List ℕ × FacingAnswer

abbrev pub AreNumbersTold : (ℕ → ℕ) → Seen ℕ ℕ → (before after : ChangeReply) → ℕ → Type 0
AreNumbersTold key (Ok (Some pairs, next)) before after status = (after.0 ≡ next)
    × (after.3 ≡ record { found = 1; value = length pairs })
    × (n : ℕ) × AreNumbers key pairs (before.1, before.2) (after.1, after.2) n × IsCopyStatus n (length pairs) status
AreNumbersTold key (Ok (None, next)) before after status =
    (status ≡ facing_done) × (after ≡ (next, before.1, before.2, record { found = 1; value = 0 }))
AreNumbersTold key (Err other) before after status = (status ≡ other) × (after ≡ before)

-- the number that a walk goes on at, three rooms, and the sizes
abbrev pub ToldBytes : Type 0
ToldBytes = ℕ × List ℕ × List ℕ × Bytes × FacingSizes

abbrev pub ArePairsTold : {V : Type 0} → (V → ℕ) → (V → Bytes) → Seen Key V → (before after : ToldBytes) → ℕ → Type 0
ArePairsTold number laid (Ok (Some pairs, next)) before after status = (after.0 ≡ next)
    × (after.4 ≡ record { pairs = length pairs; bytes = min (length (bytes_of laid pairs)) greatest_number })
    × (n : ℕ) × AreCopied number laid pairs (before.1, before.2, before.3) (after.1, after.2, after.3) n
    × IsCopyStatus n (length pairs) status
ArePairsTold number laid (Ok (None, next)) before after status =
    (status ≡ facing_done) × (after ≡ (next, before.1, before.2, before.3, record { pairs = 0; bytes = 0 }))
ArePairsTold number laid (Err other) before after status = (status ≡ other) × (after ≡ before)

-- of a closed map of the kind, or of a client of one, they are the pairs at this place; anything else is as it was, and a
-- wrong handle
abbrev pub AreNumbersOf : Target → ℕ → (before after : ChangeReply) → Target → ℕ → Type 0
AreNumbersOf (target.Numbers seed s) at before after then status = (t : Stage ℕ ℕ Merging) × (then ≡ target.Numbers seed t)
    × (seen : Seen ℕ ℕ) × IsSeen nat_eq number_code (calls.after nat_eq remapped merged) s at t seen
    × AreNumbersTold (unmixed seed) seen before after status
AreNumbersOf other at before after then status = (then ≡ other) × (status ≡ facing_wrong_handle) × (after ≡ before)

-- beside a key lie these numbers and bytes of its value
abbrev pub AreBytesOf : (Bytes → ℕ) → (Bytes → Bytes) → Target → ℕ → (before after : ToldBytes) → Target → ℕ → Type 0
AreBytesOf number laid (target.Bytes seed s) at before after then status = (t : Stage Key Bytes NoFunction)
    × (then ≡ target.Bytes seed t)
    × (seen : Seen Key Bytes) × IsSeen same_key code_in (calls.after same_bytes no_value no_value) s at t seen
    × ArePairsTold number laid seen before after status
AreBytesOf number laid other at before after then status = (then ≡ other) × (status ≡ facing_wrong_handle) × (after ≡ before)

abbrev pub AreCountsOf : Target → ℕ → (before after : ToldBytes) → Target → ℕ → Type 0
AreCountsOf (target.Counts seed s) at before after then status = (t : Stage Key ℕ Merging) × (then ≡ target.Counts seed t)
    × (seen : Seen Key ℕ) × IsSeen same_key code_in (calls.after nat_eq remapped merged) s at t seen
    × ArePairsTold (λ v. v) (λ _. []) seen before after status
AreCountsOf other at before after then status = (then ≡ other) × (status ≡ facing_wrong_handle) × (after ≡ before)
