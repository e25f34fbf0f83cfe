-- The segments of a map's tables.
use Rattle.std.specs.Prelude.{◌≡◌, ℕ, ◌+◌, ◌*◌, ◌^◌, ◌<◌, ◌≤◌, List, [], ◌∷◌, length, slice_index_or}
use Rattle.boxcar.specs.Slot.{Named}
use Rattle.hashkeys.specs.Classes.{ClassView}
use Rattle.hashkeys.specs.Limits.{most_exponent}
use Rattle.bin_history.specs.declared.form.Form.TheVariants.{Lean}
use Rattle.bin_layout.specs.Names.{home_named}
use Rattle.bin_layout.specs.Views.{HomeView}
use Rattle.lean_bins.specs.declared.slot.SegmentTag.{SegmentTag}

-- the map that a segment is of
abbrev pub home_of : SegmentTag → HomeView
home_of tag = record { ledger = tag.ledger; form = Lean; salt = tag.salt; n = tag.n }

-- the class of a bin at an index, by its exponent
abbrev pub class_at : ℕ → ℕ → ClassView
class_at index exponent = record { n = 2 ^ exponent; index = index }

-- the index of the first place that a slot's tag names
abbrev pub first_named : List ℕ → ℕ
first_named (first ∷ _) = first
first_named [] = 0

-- a segment has at most so many places
abbrev pub segment_places : ℕ
segment_places = 4096

-- so many places of the map lie in one segment, from an index on
pub record IsSegment (home : HomeView) (first count : ℕ) (tag : SegmentTag) (slots : ℕ) : Type 0 where
  pub of_map : home_of tag ≡ home
  pub from : tag.first ≡ first
  pub count_is : slots ≡ count

-- a slot of a segment or a table whose first place has this index
pub record IsSlotFrom (home : HomeView) (first : ℕ) (slot : Named) : Type 0 where
  pub of_map : home_named slot.tag ≡ home
  pub from : first_named slot.tag ≡ first

-- slots of segments of a table, one after the other
abbrev pub AreSlotsOfSegments : HomeView → ℕ → List Named → Type 0
AreSlotsOfSegments home first segments = (j : ℕ) (d : Named) → j < length segments → IsSlotFrom home (first + j * segment_places)
    (slice_index_or segments j d)

-- the slots of the segments of the table of the indexes from a power of two on: there is a segment for each of its as many
-- indexes
pub record AreSegments (home : HomeView) (first : ℕ) (segments : List Named) : Type 0 where
  pub reach : first ≤ length segments * segment_places
  pub each : AreSlotsOfSegments home first segments

-- slots of tables, one after the other
abbrev pub AreSlotsOfTables : HomeView → List Named → Type 0
AreSlotsOfTables home tables = (e : ℕ) (d : Named) → e < length tables → IsSlotFrom home (2 ^ e) (slice_index_or tables e d)

-- the slots of the tables: there is one for each of the exponents below that of the most bins
pub record AreTables (home : HomeView) (tables : List Named) : Type 0 where
  pub count_is : length tables ≡ most_exponent
  pub each : AreSlotsOfTables home tables
