-- What an arrival answers.
use Rattle.std.specs.Prelude.{◌≡◌, ℕ, ◌<◌, List, Option}
use Rattle.completers.specs.declared.relation.Partial.{Partial}
use Rattle.completers.specs.declared.arrive.Arrival.{Arrival}
use Rattle.completers.specs.declared.arrive.Arrival.TheVariants.{Early, Last}
use Rattle.completers.specs.Parts.{AreParts}
use Rattle.completers.specs.Views.{CountedView, TicketView, TreeView, nearest, opened_from, opened_to}
use Rattle.completers.specs.declared.rule.Above.{Above}

module _ {P : Type 0} where
  abbrev pub MatchArrival : Arrival P → (CountedView → Type 0) → (List (Partial P) → Option TicketView → Type 0) → Type 0
  MatchArrival (Early counted) early last = early counted
  MatchArrival (Last parts above) early last = last parts above

  abbrev pub IsLast : Arrival P → Type 0
  IsLast (Early counted) = ⊥
  IsLast (Last parts above) = Unit {0}

-- the parts of a whole node of the tree, side by side over the range that it was opened for, and the nearest of the
-- tickets above it. Only the root has none
abbrev pub IsWholeNode : {B P : Type 0} → TreeView B → (ℕ → ℕ → P → Type 0) → List Above → List (Partial P) →
    Option TicketView → Type 0
IsWholeNode tree fits up parts above = (opened_from up < opened_to tree.bins up) × AreParts fits (opened_from up)
    (opened_to tree.bins up) parts
    × (above ≡ nearest tree.identity up)
