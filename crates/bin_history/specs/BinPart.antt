-- The part of a bin.
use Rattle.std.specs.Prelude.{◌≡◌, ℕ}
use Rattle.hashkeys.specs.Classes.{is_of}
use Rattle.bin_history.specs.Part.{part_of_entries, part_of_records}
use Rattle.bin_history.specs.Lawful.{BinView}

-- the part of a bin in another's class, in the bin's form
pub record IsPartOf {K V F : Type 0} (code : K → ℕ) (whole part : BinView K V F) : Type 0 where
  pub form : part.form ≡ whole.form
  pub salt : part.salt ≡ whole.salt
  pub base : part.base ≡ part_of_entries (is_of code whole.salt part.class) whole.base
  pub records : part.records ≡ part_of_records (is_of code whole.salt part.class) whole.records
  pub entries : part.entries ≡ part_of_entries (is_of code whole.salt part.class) whole.entries
