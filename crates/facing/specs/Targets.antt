-- Maps, from their opening to their close, whatever their keys and values are.
use Rattle.std.specs.Prelude.{◌≡◌, ℕ, nat_eq, Result, Ok, Err}
use Rattle.bin_history.specs.Calls.{after}
use Rattle.hashkeys.specs.Numbers.{number_code}
use Rattle.hashkeys.specs.declared.hashing.Salt.{Salt}
use Rattle.seeded_keys.specs.Mixing.{IsNumberSeed}
use Rattle.seeded_keys.specs.declared.seed.Seed.{Seed}
use Rattle.facing_maps.specs.Functions.{remapped, merged, no_value}
use Rattle.facing_maps.specs.Keys.{same_key, same_bytes, code_in}
use Rattle.facing_maps.specs.Stages as stages
use Rattle.facing_maps.specs.Statuses.{facing_done, facing_wrong_handle}
use Rattle.facing_maps.specs.declared.status.FacingAnswer.{FacingAnswer}
use Rattle.facing.specs.declared.target.Target.{Target}
use Rattle.facing.specs.declared.target.Target.TheVariants.{Numbers, Bytes, Counts, Held}

-- it is a new map, whose passes made nothing: of whole numbers, under this seed and salt; of bytes, or of bytes and numbers, under
-- this seed
abbrev pub IsNumbersOpened : (seed0 seed1 salt capacity clients : ℕ) → Target → Type 0
IsNumbersOpened seed0 seed1 salt capacity clients (Numbers seed s) = IsNumberSeed seed0 seed1 seed
    × stages.IsOpened (record { 0 = salt }) capacity clients s
IsNumbersOpened _ _ _ _ _ _ = ⊥

abbrev pub IsBytesOpened : Seed → ℕ → ℕ → Target → Type 0
IsBytesOpened seed capacity clients (Bytes own s) = (own ≡ seed) × stages.IsOpened (record { 0 = 0 }) capacity clients s
IsBytesOpened _ _ _ _ = ⊥

abbrev pub IsCountsOpened : Seed → ℕ → ℕ → Target → Type 0
IsCountsOpened seed capacity clients (Counts own s) = (own ≡ seed) × stages.IsOpened (record { 0 = 0 }) capacity clients s
IsCountsOpened _ _ _ _ = ⊥

-- it is a client of the map that this is, and its keys are under the same seed
abbrev pub IsClientOf : Target → Target → Type 0
IsClientOf (Numbers seed s) (Numbers then c) = (then ≡ seed) × stages.IsClientOf s c
IsClientOf (Bytes seed s) (Bytes then c) = (then ≡ seed) × stages.IsClientOf s c
IsClientOf (Counts seed s) (Counts then c) = (then ≡ seed) × stages.IsClientOf s c
IsClientOf _ _ = ⊥

abbrev pub IsClientStatus : Target → ℕ → Type 0
IsClientStatus (Numbers _ s) status = stages.IsClientStatus s status
IsClientStatus (Bytes _ s) status = stages.IsClientStatus s status
IsClientStatus (Counts _ s) status = stages.IsClientStatus s status
IsClientStatus _ status = status ≡ facing_wrong_handle

-- it is a new map with the pairs of the closed one that this was, and its keys are under the same seed
abbrev pub IsReopenedFrom : Target → ℕ → Target → Type 0
IsReopenedFrom (Numbers seed s) clients (Numbers then t) = (then ≡ seed) × stages.IsReopenedFrom nat_eq number_code s clients t
IsReopenedFrom (Bytes seed s) clients (Bytes then t) = (then ≡ seed) × stages.IsReopenedFrom same_key code_in s clients t
IsReopenedFrom (Counts seed s) clients (Counts then t) = (then ≡ seed) × stages.IsReopenedFrom same_key code_in s clients t
IsReopenedFrom _ _ _ = ⊥

abbrev pub IsReopeningStatus : Target → ℕ → ℕ → Type 0
IsReopeningStatus (Numbers _ s) clients status = stages.IsReopeningStatus s clients status
IsReopeningStatus (Bytes _ s) clients status = stages.IsReopeningStatus s clients status
IsReopeningStatus (Counts _ s) clients status = stages.IsReopeningStatus s clients status
IsReopeningStatus _ _ status = status ≡ facing_wrong_handle

-- of a closed map it is done, or there is no memory for one more owner; anything else is a wrong handle
abbrev pub IsAgainStatus : Target → ℕ → Type 0
IsAgainStatus (Numbers _ s) status = stages.IsAgainStatus s status
IsAgainStatus (Bytes _ s) status = stages.IsAgainStatus s status
IsAgainStatus (Counts _ s) status = stages.IsAgainStatus s status
IsAgainStatus _ status = status ≡ facing_wrong_handle

-- what a map is after it was to be closed, of its kind and under its seed; anything else is as it was, and a wrong handle
abbrev pub IsClosedAs : Target → Target → ℕ → Type 0
IsClosedAs (Numbers seed s) (Numbers then t) status = (then ≡ seed)
    × stages.IsClosedAs nat_eq number_code (after nat_eq remapped merged) s t status
IsClosedAs (Bytes seed s) (Bytes then t) status = (then ≡ seed)
    × stages.IsClosedAs same_key code_in (after same_bytes no_value no_value) s t status
IsClosedAs (Counts seed s) (Counts then t) status = (then ≡ seed)
    × stages.IsClosedAs same_key code_in (after nat_eq remapped merged) s t status
IsClosedAs (Held value) then status = (then ≡ Held value) × (status ≡ facing_wrong_handle)
IsClosedAs _ _ _ = ⊥

-- the number of keys
abbrev pub IsCounted : Target → Result ℕ ℕ → Type 0
IsCounted (Numbers _ s) n = stages.IsCounted s n
IsCounted (Bytes _ s) n = stages.IsCounted s n
IsCounted (Counts _ s) n = stages.IsCounted s n
IsCounted _ n = n ≡ Err facing_wrong_handle

-- it is told, or the answer is as it was
abbrev pub IsNumberTold : Result ℕ ℕ → ℕ → (before after : FacingAnswer) → Type 0
IsNumberTold (Ok n) status before after = (status ≡ facing_done) × (after ≡ record { found = 1; value = n })
IsNumberTold (Err other) status before after = (status ≡ other) × (after ≡ before)

abbrev pub IsCountTold : Target → ℕ → (before after : FacingAnswer) → Type 0
IsCountTold target status before after = (n : Result ℕ ℕ) × IsCounted target n × IsNumberTold n status before after
