-- What lies at a place.
use Rattle.std.specs.Prelude.{◌≡◌, ℕ, ◌+◌, ◌≤◌, Bool, Option, IsSomeAnd, List}
use mathlib.Core.Option.{some}
use lib.ListN.{get_elem?}
use Rattle.hashkeys.specs.Classes.{ClassView}
use Rattle.bin_history.specs.Lawful.{BinView}
use Rattle.bin_history.specs.Leans.{as_bin}
use Rattle.bin_history.specs.declared.call.Call.{Call}
use Rattle.bin_layout.specs.Places.{AreAt}
use Rattle.bin_layout.specs.Views.{HomeView, place_of}
use Rattle.bin_layout.specs.declared.tag.PlaceTag.{PlaceTag}
use Rattle.lean_bins.specs.Segments.{home_of, class_at}
use Rattle.lean_bins.specs.declared.slot.SegmentTag.{SegmentTag}
use Rattle.lean_bins.specs.declared.slot.BinSlot.{BinSlot}

module _ {K V F A : Type 0} where
  -- its entries as a bin
  abbrev pub bin_in : BinSlot K V F A → BinView K V F
  bin_in x = as_bin x.entries

  module _ (same_key : K → K → Bool) (after : Call K V F → Option V → Option V) where
    -- a bin lies there with its role, and both are at the place
    abbrev pub IsInSlot : PlaceTag → BinSlot K V F A → Type 0
    IsInSlot place x = IsSomeAnd x.role (λ r. AreAt same_key after place (bin_in x) r)

    -- a bin of the class lies there with its role, in a map that has no wider one
    pub record IsInSlotFor (home : HomeView) (class : ClassView) (x : BinSlot K V F A) : Type 0 where
      pub at : IsInSlot (place_of home class) x
      pub least : home.n ≤ class.n

    -- what the word of a place says of what lies there
    abbrev pub FitsWord : SegmentTag → ℕ → ℕ → BinSlot K V F A → Type 0
    FitsWord tag at exponent x = IsInSlotFor (home_of tag) (class_at (tag.first + at) exponent) x

    -- the bins that a map opens with, each with its role at its index
    abbrev pub AreOpening : HomeView → List (BinSlot K V F A) → Type 0
    AreOpening home xs = (at : ℕ) (x : BinSlot K V F A) → get_elem? xs at ≡ some x
        → IsInSlotFor home (record { n = home.n; index = at }) x
