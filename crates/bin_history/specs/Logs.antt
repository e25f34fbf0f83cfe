-- What a recorded bin stores beside its entries: its base and its records.
use Rattle.std.specs.Prelude.{◌≡◌, ◌≢◌, ℕ, ◌<◌, ◌≤◌, Bool, Option, List, length, take, drop}
use Rattle.std.specs.Prelude.{◌⊎◌}
use Rattle.bin_history.specs.Births.{births_in}
use Rattle.bin_history.specs.Entries.{lookup, HasDistinctKeys, replay}
use Rattle.bin_history.specs.Limits.{folded_records, most_records}
use Rattle.bin_history.specs.Plain.{IsLegal}
use Rattle.bin_history.specs.declared.call.Call.{Call}
use Rattle.bin_history.specs.Records.{RecordView}

-- the base and the records, and how many more of each there is memory for
pub record LogView (K V F : Type 0) : Type 0 where
  pub base : List (K × V)
  pub records : List (RecordView K V F)
  pub base_room : ℕ
  pub record_room : ℕ

-- there is room for one more record or, where there are 1,024, in the base for the keys that the oldest 512 of them made
-- present
abbrev pub CanFold : {K V F : Type 0} → LogView K V F → Type 0
CanFold log = (length log.records ≡ most_records → births_in (take folded_records log.records) ≤ log.base_room)
    × (length log.records ≢ most_records → 0 < log.record_room)

-- the records are of calls on the base, by some rules of what a call leaves
pub record AreCallsOn {K V F : Type 0} (same_key : K → K → Bool) (base : List (K × V)) (records : List (RecordView K V F)) :
    Type 0 where
  pub distinct : HasDistinctKeys same_key base
  pub rules : Call K V F → Option V → Option V
  pub legal : IsLegal same_key rules (lookup same_key base) records

-- base and records as they were, or the oldest 512 of 1,024 records folded into the base
abbrev pub IsKeptOrFolded : {K V F : Type 0} → (K → K → Bool) → List (K × V) → List (RecordView K V F) → List (K × V) →
    List (RecordView K V F) → Type 0
IsKeptOrFolded same_key base records base' records' =
    ((base' ≡ base) × (records' ≡ records))
    ⊎ ((length records ≡ most_records) × (base' ≡ replay same_key base (take folded_records records))
    × (records' ≡ drop folded_records records))
