-- A map that could not be closed, and came back.
use Rattle.std.proofs.Common.{◌≡◌, Some, None, List, inl, inr, sym, ◌∙◌}
use Rattle.count_ledger.specs.Views.{PassView}
use Rattle.chm.specs.Closing.{NotClosedView, IsNotClosed}
use Rattle.chm.specs.Views.{MapView}

module _ {K V F : Type 0} (map : MapView K V) (passes : List (PassView K V F)) (e : NotClosedView K V F) where
  -- what came back is the map that was to be closed
  pub came_back : (got : MapView K V) → IsNotClosed map passes e → e.map ≡ Some got → got ≡ map
  came_back got n is = elim n.kept [
    | inl gone ↦ let none : None ≡ Some got = sym gone.1 ∙ is in absurd cc
    | inr kept ↦ let same : Some got ≡ Some map = sym is ∙ kept.1 in cc
  ]
