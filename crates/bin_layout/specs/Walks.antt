-- Walk order, by the number of opening bins.
use Rattle.std.specs.Prelude.{◌≡◌, ℕ, ◌*◌, ◌%◌, ◌^◌, ◌<◌, ◌≤◌, ◌↔◌, ◌⊎◌, true, List, [], ◌∷◌, All}
use Rattle.hashkeys.specs.Classes.{ClassView, IsClass, covers, covering, CoverOnce}

module _ (n : ℕ) where
  -- a hash stands before another: at the least of n, 2n, 4n, .. by which their remainders differ, its own is the
  -- smaller
  abbrev pub Precedes : ℕ → ℕ → Type 0
  Precedes h g = (e : ℕ) × ((j : ℕ) → j < e → h % (n * 2 ^ j) ≡ g % (n * 2 ^ j)) × (h % (n * 2 ^ e) < g % (n * 2 ^ e))

  -- of a class its index is the first hash
  abbrev pub Before : ClassView → ClassView → Type 0
  Before c d = Precedes c.index d.index

  abbrev pub AreInOrder : List ClassView → Type 0
  AreInOrder [] = Unit {0}
  AreInOrder (c ∷ cs) = All (Before c) cs × AreInOrder cs

  -- the hash is of the class or stands before it
  abbrev pub HasPassed : ClassView → ℕ → Type 0
  HasPassed c hash = Precedes hash c.index ⊎ (covers c hash ≡ true)

  -- the hashes that stand before this class are those of the other and before it
  abbrev pub IsFirstAfter : ClassView → ClassView → Type 0
  IsFirstAfter c next = (hash : ℕ) → HasPassed c hash ↔ Precedes hash next.index

  -- no hash stands after the class
  abbrev pub IsLastInWalk : ClassView → Type 0
  IsLastInWalk c = (hash : ℕ) → HasPassed c hash

  -- the classes stand in walk order, have every hash, each once, and are no wider than the opening ones
  pub record IsWalk (classes : List ClassView) : Type 0 where
    pub each_class : All IsClass classes
    pub each_hash : CoverOnce classes
    pub in_order : AreInOrder classes
    pub least : All (λ c. n ≤ c.n) classes

  -- the same of the hashes that stand before a class that is next
  pub record IsWalkTo (classes : List ClassView) (next : ClassView) : Type 0 where
    pub each_class : All IsClass classes
    pub each_hash : (hash : ℕ) → (Precedes hash next.index × (covering classes hash ≡ 1))
        ⊎ ((Precedes hash next.index → ⊥) × (covering classes hash ≡ 0))
    pub in_order : AreInOrder classes
    pub before : All (λ c. Before c next) classes
    pub least : All (λ c. n ≤ c.n) classes
