-- The places of a map, in tables by size.
use Rattle.std.specs.Prelude.{◌≡◌, ℕ, ◌<◌, ◌≤◌, ◌^◌, ◌⊎◌, List, [], ◌∷◌, length, slice_index_or}
use Rattle.boxcar.specs.Slot.{Named}
use Rattle.hashkeys.specs.Classes.{IsTableSize}
use Rattle.hashkeys.specs.declared.hashing.Salt.{Salt}
use Rattle.bin_history.specs.Limits.{most_recorded_bins}
use Rattle.bin_history.specs.declared.form.Form.{Form}
use Rattle.bin_history.specs.declared.form.Form.TheVariants.{Recorded}
use Rattle.count_ledger.specs.Views.{LedgerId}
use Rattle.bin_layout.specs.Names.{home_named}
use Rattle.bin_layout.specs.Views.{HomeView, place_of}
use Rattle.bin_layout.specs.declared.tag.PlaceTag.{PlaceTag}

abbrev pub generations_view : LedgerId → Form → Salt → List PlaceTag → HomeView
generations_view ledger form salt opening = record { ledger = ledger; form = form; salt = salt; n = length opening }

-- a table of n places is not too wide for the map's form: a recorded map has no wider one than the most that such a map
-- has, but for the one that it opened with
abbrev pub FitsForm : HomeView → ℕ → Type 0
FitsForm home n = home.form ≡ Recorded → (n ≡ home.n) ⊎ (n ≤ most_recorded_bins)

-- a table of n places of the map, no smaller than its opening one: the place at each index is for the class of that
-- index among n
pub record IsTable (home : HomeView) (n : ℕ) (places : List PlaceTag) : Type 0 where
  pub size : IsTableSize n
  pub least : home.n ≤ n
  pub few : FitsForm home n
  pub count : length places ≡ n
  pub by_index : (i : ℕ) (d : PlaceTag) → i < n →
      slice_index_or places i d ≡ place_of home (record { n = n; index = i })

-- the size of the table that it names
abbrev pub size_named : List ℕ → ℕ
size_named (exponent ∷ _) = 2 ^ exponent
size_named [] = 0

-- the slot is for the map's table of 2 to the exponent places
pub record IsSlotOf (home : HomeView) (exponent : ℕ) (slot : Named) : Type 0 where
  pub of_map : home_named slot.tag ≡ home
  pub of_size : size_named slot.tag ≡ 2 ^ exponent

-- how many sizes a table can have: 1, 2, 4 and so on to 2^26 places
abbrev pub all_sizes : ℕ
all_sizes = 27

-- a slot for each size of a table
pub record AreSlots (home : HomeView) (slots : List Named) : Type 0 where
  pub count : length slots ≡ all_sizes
  pub by_exponent : (e : ℕ) (d : Named) → e < all_sizes → IsSlotOf home e (slice_index_or slots e d)

-- what a map keeps
pub record IsGenerations (ledger : LedgerId) (form : Form) (salt : Salt) (opening : List PlaceTag)
    (slots : List Named) : Type 0 where
  pub opening_is : IsTable (generations_view ledger form salt opening) (length opening) opening
  pub slots_are : AreSlots (generations_view ledger form salt opening) slots
