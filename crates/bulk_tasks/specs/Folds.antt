-- Folds of pairs.
use Rattle.std.specs.declared.alloc.AllocError.{AllocError}
use Rattle.std.specs.List.Sorted.{IsPermutation}
use Rattle.std.specs.Prelude.{◌≡◌, ℕ, ◌+◌, ◌^◌, ◌<◌, Bool, IsTrue, IfSome, Option, Some, None, Result, Ok, Err, List}
use Rattle.std.specs.Prelude.{[], ◌∷◌, length, map, fold}

module _ {K V A : Type 0} (lift : K → V → A) (join : A → A → A) where
  -- the lifted pairs, joined from left to right onto the basis
  abbrev pub fold_from : A → List (K × V) → A
  fold_from basis es = fold join basis (map (λ e. lift e.0 e.1) es)

  -- the lifted pairs, joined from left to right; none of no pairs
  abbrev pub plain_fold : List (K × V) → Option A
  plain_fold [] = None
  plain_fold (e ∷ es) = Some (fold_from (lift e.0 e.1) es)

  -- joined to it on either side, each lifted value and each joined one stays as it is
  abbrev pub IsIdentity : A → Type 0
  IsIdentity basis = ((k : K) (v : V) → (join basis (lift k v) ≡ lift k v) × (join (lift k v) basis ≡ lift k v))
      × ((a b : A) → (join basis (join a b) ≡ join a b) × (join (join a b) basis ≡ join a b))

abbrev pub IsAssociative : {A : Type 0} → (A → A → A) → Type 0
IsAssociative {A} join = (a b c : A) → join (join a b) c ≡ join a (join b c)

abbrev pub IsCommutative : {A : Type 0} → (A → A → A) → Type 0
IsCommutative {A} join = (a b : A) → join a b ≡ join b a

-- values within the bounds of so many pairs and of so many others join to one within the bound of all
abbrev pub JoinsWithin : {A : Type 0} → (ℕ → A → Type 0) → (A → A → A) → Type 0
JoinsWithin {A} within join = (n m : ℕ) (a b : A) → within n a → within m b → within (n + m) (join a b)

-- two values of fewer than 2^64 pairs together
abbrev pub AreOfFew : {A : Type 0} → (ℕ → A → Type 0) → A → A → Type 0
AreOfFew {A} within a b = (n : ℕ) × (m : ℕ) × within n a × within m b × (n + m < 2 ^ 64)

-- a fold of the pairs, within the bound of so many; it is refused only where a reducer may refuse
abbrev pub IsFolded : {K V A : Type 0} → (K → V → A) → (A → A → A) → (ℕ → A → Type 0) → Bool → List (K × V) →
    Result (Option A) AllocError → Type 0
IsFolded lift join within never_refuses es (Ok a) = (a ≡ plain_fold lift join es) × IfSome a (within (length es))
IsFolded lift join within never_refuses es (Err e) = ¬ IsTrue never_refuses

-- whatever order the pairs stand in, they fold to the same
abbrev pub FoldsInAnyOrder : {K V A : Type 0} → (K → V → A) → (A → A → A) → Type 0
FoldsInAnyOrder {K} {V} lift join = (es fs : List (K × V)) → IsPermutation es fs →
    plain_fold lift join fs ≡ plain_fold lift join es
