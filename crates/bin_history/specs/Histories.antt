-- The history of a bin: the records that were kept of it since an opening map, whichever of them it still stores.
use Rattle.std.specs.Prelude.{◌≡◌, Bool, Option, List, ◌++◌}
use Rattle.bin_history.specs.Plain.{IsLegal}
use Rattle.bin_history.specs.Entries.{lookup, HasDistinctKeys, replay}
use Rattle.bin_history.specs.Lawful.{BinView}
use Rattle.bin_history.specs.declared.call.Call.{Call}
use Rattle.bin_history.specs.Records.{RecordView}

module _ {K V F : Type 0} (same_key : K → K → Bool) (after : Call K V F → Option V → Option V) where
  -- the opening pairs have distinct keys; the records kept are a front and then the bin's records; the front is legal
  -- on the opening map, and the bin's base is its replay
  pub record FollowsFront (opening : List (K × V)) (kept front : List (RecordView K V F))
      (b : BinView K V F) : Type 0 where
    pub distinct : HasDistinctKeys same_key opening
    pub kept_is : kept ≡ front ++ b.records
    pub legal : IsLegal same_key after (lookup same_key opening) front
    pub base_is : b.base ≡ replay same_key opening front

  -- the bin is what the kept records made of the opening map
  abbrev pub HasHistory : List (K × V) → List (RecordView K V F) → BinView K V F → Type 0
  HasHistory opening kept b = (front : List (RecordView K V F)) × FollowsFront opening kept front b

  -- a bin went on by more records: of those that it stored and the new ones a front, which is legal on the base, went
  -- into the base, and the others are stored
  pub record GoesOnPast (b : BinView K V F) (more front : List (RecordView K V F)) (c : BinView K V F) : Type 0 where
    pub stored_is : b.records ++ more ≡ front ++ c.records
    pub legal : IsLegal same_key after (lookup same_key b.base) front
    pub base_is : c.base ≡ replay same_key b.base front

  abbrev pub GoesOn : BinView K V F → List (RecordView K V F) → BinView K V F → Type 0
  GoesOn b more c = (front : List (RecordView K V F)) × GoesOnPast b more front c
