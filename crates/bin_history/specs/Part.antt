-- The part of a map, of entries or of records at the keys for which a test holds.
use Rattle.std.specs.Prelude.{Bool, List, filter}
use Rattle.bin_history.specs.Calls.{key_of}
use Rattle.bin_history.specs.Records.{RecordView}
pub use Rattle.bin_entries.specs.Parts.{part_of_map, part_of_entries}

module _ {K V F : Type 0} (test : K → Bool) where
  -- the records at such keys, in order
  abbrev pub part_of_records : List (RecordView K V F) → List (RecordView K V F)
  part_of_records rs = filter (λ r. test (key_of r.call)) rs
