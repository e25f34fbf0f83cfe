-- What holds of a bin: its entries are a one-thread map's over its records.
use Rattle.std.specs.Prelude.{◌≡◌, ℕ, ◌≤◌, Bool, true, Option, List, [], length, All}
use Rattle.hashkeys.specs.Classes.{ClassView, is_of}
use Rattle.hashkeys.specs.declared.hashing.Salt.{Salt}
use Rattle.bin_history.specs.Calls.{key_of}
use Rattle.bin_history.specs.Limits.{most_records}
use Rattle.bin_history.specs.Plain.{run, IsLegal}
use Rattle.bin_history.specs.Entries.{lookup, HasDistinctKeys, replay}
use Rattle.bin_history.specs.Births.{birth, IsInOrder}
use Rattle.bin_history.specs.declared.call.Call.{Call}
use Rattle.bin_history.specs.Records.{RecordView}
use Rattle.bin_history.specs.declared.form.Form.{Form}
use Rattle.bin_history.specs.declared.form.Form.TheVariants.{Lean}

-- a bin, as contracts see it; `record_room` and `entry_room` say how many more of each it has memory for
pub record BinView (K V F : Type 0) : Type 0 where
  pub form : Form
  pub salt : Salt
  pub class : ClassView
  pub base : List (K × V)
  pub records : List (RecordView K V F)
  pub entries : List (K × V)
  pub record_room : ℕ
  pub entry_room : ℕ

-- a lean bin stores no record, and its base is its entries
abbrev pub StoresByForm : {K V F : Type 0} → BinView K V F → Type 0
StoresByForm b = b.form ≡ Lean → (b.records ≡ []) × (b.base ≡ b.entries)

module _ {K V F : Type 0} (same_key : K → K → Bool) (code : K → ℕ) (after : Call K V F → Option V → Option V) where
  pub record IsLawful (b : BinView K V F) : Type 0 where
    pub base_distinct : HasDistinctKeys same_key b.base
    pub distinct : HasDistinctKeys same_key b.entries
    pub base_of_class : All (λ e. is_of code b.salt b.class e.0 ≡ true) b.base
    pub records_of_class : All (λ r. is_of code b.salt b.class (key_of r.call) ≡ true) b.records
    pub of_class : All (λ e. is_of code b.salt b.class e.0 ≡ true) b.entries
    pub legal : IsLegal same_key after (lookup same_key b.base) b.records
    pub at_most : length b.records ≤ most_records
    pub stored : StoresByForm b
    pub same_map : (k : K) → lookup same_key b.entries k ≡ run same_key (lookup same_key b.base) b.records k
    pub in_order : IsInOrder (birth same_key b.base b.records) b.entries

  -- what a bin keeps, from which it is lawful: its entries are the replay of its records over its base
  pub record IsReplayed (salt : Salt) (class : ClassView) (base : List (K × V)) (records : List (RecordView K V F))
      (entries : List (K × V)) : Type 0 where
    pub base_distinct : HasDistinctKeys same_key base
    pub base_of_class : All (λ e. is_of code salt class e.0 ≡ true) base
    pub records_of_class : All (λ r. is_of code salt class (key_of r.call) ≡ true) records
    pub legal : IsLegal same_key after (lookup same_key base) records
    pub at_most : length records ≤ most_records
    pub replayed : entries ≡ replay same_key base records
