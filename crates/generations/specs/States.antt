-- What the lock of a place keeps.
use Rattle.std.specs.Prelude.{Bool, Option}
use Rattle.bin_history.specs.declared.call.Call.{Call}
use Rattle.bin_layout.specs.Places.{AreAt}
use Rattle.bin_layout.specs.declared.tag.PlaceTag.{PlaceTag}
use Rattle.generations.specs.declared.state.State.{State}
use Rattle.generations.specs.declared.state.State.TheVariants.{Live, Away}

-- a bin and its role that are at the place, or nothing
abbrev pub FitsPlace : {K V F A : Type 0} → (K → K → Bool) → (Call K V F → Option V → Option V) → PlaceTag →
    State K V F A → Type 0
FitsPlace same_key after tag (Live r b) = AreAt same_key after tag b r
FitsPlace same_key after tag Away = Unit {0}
