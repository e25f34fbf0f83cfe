-- A place whose bin was taken out.
use Rattle.std.specs.Prelude.{◌≡◌, ℕ, ◌+◌, ◌^◌, ◌≤◌}
use Rattle.hashkeys.specs.Classes.{ClassView}
use Rattle.bin_layout.specs.Views.{HomeView}
use Rattle.lean_bins.specs.Segments.{home_of}
use Rattle.lean_bins.specs.declared.slot.SegmentTag.{SegmentTag}

-- it is the map's place for the class of this exponent
pub record IsTakenFrom (home : HomeView) (class : ClassView) (exponent : ℕ) (tag : SegmentTag) (at : ℕ) : Type 0 where
  pub of_map : home_of tag ≡ home
  pub index_is : tag.first + at ≡ class.index
  pub size_is : class.n ≡ 2 ^ exponent
  pub least : home.n ≤ class.n
