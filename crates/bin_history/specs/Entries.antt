-- Lists of pairs as maps, and what records of calls make of them.
use Rattle.std.specs.Prelude.{Bool, List, [], ◌∷◌}
use Rattle.bin_history.specs.Calls.{key_of}
use Rattle.bin_history.specs.Records.{RecordView}
pub use Rattle.bin_entries.specs.Entries.{first_in, lookup, HasDistinctKeys, put, remove, store}

module _ {K V F : Type 0} (same_key : K → K → Bool) where
  -- the entries after records, each key in its place
  abbrev pub replay : List (K × V) → List (RecordView K V F) → List (K × V)
  replay es [] = es
  replay es (r ∷ rs) = replay (store same_key es (key_of r.call) r.after) rs
