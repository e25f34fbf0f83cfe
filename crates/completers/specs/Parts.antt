-- Parts side by side, and the eight slots of a node.
use Rattle.std.specs.Prelude.{◌≡◌, ℕ, zero, suc, ◌+◌, ◌*◌, ◌<◌, List, [], ◌∷◌, Option, Some, None}
use Rattle.completers.specs.declared.relation.Partial.{Partial}
use Rattle.completers.specs.declared.parts.Slots.{Slots}

module _ {P : Type 0} where
  -- parts side by side from lo to hi, each of which fits its range
  abbrev pub AreParts : (ℕ → ℕ → P → Type 0) → ℕ → ℕ → List (Partial P) → Type 0
  AreParts fits lo hi [] = lo ≡ hi
  AreParts fits lo hi (x ∷ xs) = (x.lo ≡ lo) × (lo < x.hi) × fits lo x.hi x.part × AreParts fits x.hi hi xs

  -- a part of just that range, which fits it
  abbrev pub IsPart : (ℕ → ℕ → P → Type 0) → ℕ → ℕ → Partial P → Type 0
  IsPart fits lo hi x = (x.lo ≡ lo) × (x.hi ≡ hi) × fits lo hi x.part

  -- what is in slots, without the empty ones
  abbrev pub present : List (Option (Partial P)) → List (Partial P)
  present [] = []
  present (None ∷ os) = present os
  present (Some x ∷ os) = x ∷ present os

  abbrev pub slots_of : Slots P → List (Option (Partial P))
  slots_of p = p.own ∷ p.fork7 ∷ p.fork6 ∷ p.fork5 ∷ p.fork4 ∷ p.fork3 ∷ p.fork2 ∷ p.fork1 ∷ []

  -- y j, .., y 1
  abbrev pub stack : (ℕ → Option (Partial P)) → ℕ → List (Option (Partial P))
  stack y zero = []
  stack y (suc j) = y (suc j) ∷ stack y j

  -- the slots j, .., 1 of the node n with what is in them, in front of others
  abbrev pub pile : ℕ → (ℕ → Option (Partial P)) → ℕ → List (ℕ × Option (Partial P)) → List (ℕ × Option (Partial P))
  pile n y zero c = c
  pile n y (suc j) c = (8 * n + suc j, y (suc j)) ∷ pile n y j c

  -- where a slot's part ends
  abbrev pub end_after : ℕ → Option (Partial P) → ℕ
  end_after d None = d
  end_after d (Some x) = x.hi

  abbrev pub start_of : Option (Partial P) → ℕ
  start_of None = 0
  start_of (Some x) = x.lo

  -- where the last part ends
  abbrev pub ends : ℕ → List (Option (Partial P)) → ℕ
  ends d [] = d
  ends d (o ∷ os) = ends (end_after d o) os
