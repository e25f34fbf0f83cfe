-- The bins of a map with their roles.
use Rattle.std.specs.Prelude.{◌≡◌, ℕ, Bool, Option, List, [], ◌∷◌, map}
use Rattle.hashkeys.specs.Classes.{ClassView}
use Rattle.bin_history.specs.Lawful.{BinView, IsLawful}
use Rattle.bin_history.specs.declared.call.Call.{Call}
use Rattle.count_ledger.specs.Agreement.{BinAgrees}
use Rattle.count_ledger.specs.Views.{RoleView}
use Rattle.bin_layout.specs.Views.{HomeView}

-- the classes of bins
abbrev pub classes_of_bins : {K V F : Type 0} → List (BinView K V F) → List ClassView
classes_of_bins bins = map (λ b. b.class) bins

module _ {K V F : Type 0} (same_key : K → K → Bool) (code : K → ℕ) (after : Call K V F → Option V → Option V)
    (g : HomeView) where
  -- a lawful bin of the map's form and salt, and a role of its ledger that agrees with it
  pub record IsBinWithRole (b : BinView K V F) (r : RoleView K V F) : Type 0 where
    pub form : b.form ≡ g.form
    pub salt : b.salt ≡ g.salt
    pub ledger : r.ledger ≡ g.ledger
    pub agree : BinAgrees same_key after b r
    pub lawful : IsLawful same_key code after b

  -- place by place
  abbrev pub AreBinsWithRoles : List (BinView K V F) → List (RoleView K V F) → Type 0
  AreBinsWithRoles [] [] = Unit {0}
  AreBinsWithRoles (b ∷ bs) (r ∷ rs) = IsBinWithRole b r × AreBinsWithRoles bs rs
  AreBinsWithRoles _ _ = ⊥
