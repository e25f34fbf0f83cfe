-- The locked bins of a map, as contracts see them.
use Rattle.std.specs.Prelude.{◌≡◌, ℕ, ◌≤◌}
use Rattle.hashkeys.specs.Classes.{ClassView}
use Rattle.hashkeys.specs.declared.hashing.Salt.{Salt}
use Rattle.bin_history.specs.declared.form.Form.{Form}
use Rattle.count_ledger.specs.Views.{LedgerId}
use Rattle.bin_layout.specs.declared.tag.PlaceTag.{PlaceTag}

-- the locked bins of a map: the ledger of their roles, their form, the salt of their hashes, and how many there were at
-- first
pub record HomeView : Type 0 where
  pub ledger : LedgerId
  pub form : Form
  pub salt : Salt
  pub n : ℕ

-- the map's place for a bin of the class
abbrev pub place_of : HomeView → ClassView → PlaceTag
place_of home class = record { class = class; form = home.form; salt = home.salt; ledger = home.ledger }

-- the place is of the map: of its form, its salt and its ledger, and no wider than its opening bins
pub record IsPlaceOf (home : HomeView) (p : PlaceTag) : Type 0 where
  pub form : p.form ≡ home.form
  pub salt : p.salt ≡ home.salt
  pub ledger : p.ledger ≡ home.ledger
  pub least : home.n ≤ p.class.n
