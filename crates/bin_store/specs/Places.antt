-- A place whose bin is held.
use Rattle.bin_layout.specs.Views.{HomeView, place_of}
use Rattle.bin_layout.specs.declared.tag.PlaceTag.{PlaceTag}
use Rattle.bin_store.specs.declared.hold.Place.{Place}
use Rattle.bin_store.specs.declared.hold.Place.TheVariants.{Recorded, Lean}

-- what is fixed of it
abbrev pub tag_of : {K V F A : Type 0} → Place K V F A → PlaceTag
tag_of (Recorded place) = place.at.now
tag_of (Lean place) = place_of place.home.now place.class

-- the map that it is of
abbrev pub home_of : {K V F A : Type 0} → Place K V F A → HomeView
home_of (Recorded place) = place.home.now
home_of (Lean place) = place.home.now
