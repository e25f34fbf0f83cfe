-- A bin and its role at a place.
use Rattle.std.specs.Prelude.{◌≡◌, Bool, Option}
use Rattle.bin_history.specs.Lawful.{BinView}
use Rattle.bin_history.specs.declared.call.Call.{Call}
use Rattle.count_ledger.specs.Agreement.{BinAgrees}
use Rattle.count_ledger.specs.Views.{RoleView}
use Rattle.bin_layout.specs.declared.tag.PlaceTag.{PlaceTag}

-- they agree, and are of the place's class, form, salt and ledger
pub record AreAt {K V F : Type 0} (same_key : K → K → Bool) (after : Call K V F → Option V → Option V) (p : PlaceTag)
    (b : BinView K V F) (r : RoleView K V F) :
    Type 0 where
  pub class : b.class ≡ p.class
  pub form : b.form ≡ p.form
  pub salt : b.salt ≡ p.salt
  pub ledger : r.ledger ≡ p.ledger
  pub agree : BinAgrees same_key after b r
