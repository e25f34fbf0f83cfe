-- A map's bins, and where one lies.
use Rattle.std.specs.Prelude.{◌≡◌, ℕ, ◌+◌, ◌<◌, ◌≤◌, ◌%◌, ◌^◌, List}
use Rattle.boxcar.specs.Slot.{Named}
use Rattle.hashkeys.specs.Classes.{IsTableSize}
use Rattle.hashkeys.specs.Limits.{most_exponent}
use Rattle.bin_layout.specs.Views.{HomeView}
use Rattle.lean_bins.specs.Segments.{home_of, IsSegment, AreTables}
use Rattle.lean_bins.specs.declared.slot.SegmentTag.{SegmentTag}

-- what a map keeps
pub record IsHome (home : HomeView) (tag : SegmentTag) (slots : ℕ) (tables : List Named) : Type 0 where
  pub size : IsTableSize home.n
  pub opening : IsSegment home 0 home.n tag slots
  pub tables_are : AreTables home tables

-- one of the indexes that a hash has in the tables of 1, 2, 4 and so on to 2^26 places
abbrev pub IsIndexOf : ℕ → ℕ → Type 0
IsIndexOf hash index = (e : ℕ) × (e ≤ most_exponent) × (index ≡ hash % 2 ^ e)

-- the place of an index lies in this segment of the map, so far from its first
pub record IsSlotRefOf (home : HomeView) (index : ℕ) (tag : SegmentTag) (slots at : ℕ) : Type 0 where
  pub of_map : home_of tag ≡ home
  pub index_is : tag.first + at ≡ index
  pub within : at < slots
