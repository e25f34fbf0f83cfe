-- What is read of closed maps.
use Rattle.std.specs.Prelude.{◌≡◌, ℕ, ◌≤◌, ⊤, nat_eq, length, Option, Some, None, option_copied, Result, Ok, Err}
use Rattle.std.specs.Borrow.{Bor}
use Rattle.facing_maps.specs.Answers.{found_by}
use Rattle.facing_maps.specs.Calls.{IsFound}
use Rattle.facing_maps.specs.Keys.{Bytes, key_of, same_key, IsTooLong}
use Rattle.facing_maps.specs.Rooms.{IsWhole}
use Rattle.facing_maps.specs.Statuses.{facing_done, facing_longest, facing_wrong_handle}
use Rattle.facing_maps.specs.declared.status.FacingAnswer.{FacingAnswer}
use Rattle.seeded_keys.specs.Mixing.{mixed}
use Rattle.facing.specs.Calls.{Shown}
use Rattle.facing.specs.declared.target.Target.{Target}
use Rattle.facing.specs.declared.target.Target.TheVariants as target

-- a number that was found is told, or that there is none
abbrev pub IsNumberShown : Result (Option (Bor ℕ)) ℕ → ℕ → (before after : FacingAnswer) → Type 0
IsNumberShown (Ok found) status before after = (status ≡ facing_done) × (after ≡ found_by (λ v. v) (option_copied found))
IsNumberShown (Err other) status before after = (status ≡ other) × (after ≡ before)

-- bytes that were found are shown whole, or not at all
abbrev pub IsBytesFoundAs : Result (Option (Bor Bytes)) ℕ → ℕ → (before after : Shown) → Type 0
IsBytesFoundAs (Ok (Some found)) status before after =
    IsWhole found.now before.0 after.0 status × (after.1 ≡ record { found = 1; value = length found.now })
IsBytesFoundAs (Ok None) status before after =
    (status ≡ facing_done) × (after.0 ≡ before.0) × (after.1 ≡ record { found = 0; value = 0 })
IsBytesFoundAs (Err other) status before after = (status ≡ other) × (after ≡ before)

-- of a closed map of the kind it is the value at the key; anything else is a wrong handle, and all is as it was
abbrev pub IsNumberFound : Target → ℕ → ℕ → (before after : FacingAnswer) → Type 0
IsNumberFound (target.Numbers seed s) key status before after = (found : Result (Option (Bor ℕ)) ℕ)
    × IsFound nat_eq ⊤ (λ _. ⊥) s (mixed seed key) found × IsNumberShown found status before after
IsNumberFound _ key status before after = (status ≡ facing_wrong_handle) × (after ≡ before)

abbrev pub IsCountFound : Target → Bytes → ℕ → (before after : FacingAnswer) → Type 0
IsCountFound (target.Counts seed s) key status before after = (found : Result (Option (Bor ℕ)) ℕ)
    × IsFound same_key (length key ≤ facing_longest) (IsTooLong (length key)) s (key_of seed key) found
    × IsNumberShown found status before after
IsCountFound _ key status before after = (status ≡ facing_wrong_handle) × (after ≡ before)

abbrev pub IsBytesFound : Target → Bytes → ℕ → (before after : Shown) → Type 0
IsBytesFound (target.Bytes seed s) key status before after = (found : Result (Option (Bor Bytes)) ℕ)
    × IsFound same_key (length key ≤ facing_longest) (IsTooLong (length key)) s (key_of seed key) found
    × IsBytesFoundAs found status before after
IsBytesFound _ key status before after = (status ≡ facing_wrong_handle) × (after ≡ before)
