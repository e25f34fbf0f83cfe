-- What holds of each member of a list, and of each two.
use Rattle.std.proofs.Common.{List, [], ◌∷◌, ◌++◌}
use Rattle.std.specs.List.{AllByRecursion as Each}
use Rattle.count_ledger.specs.Rule.{Among, Across}

module _ {A : Type 0} (P : A → Type 0) where
  pub Each-append : (xs ys : List A) → Each P xs → Each P ys → Each P (xs ++ ys)
  Each-append [] ys p q = q
  Each-append (x ∷ xs) ys p q = (p.0, Each-append xs ys p.1 q)

  pub Each-left : (xs ys : List A) → Each P (xs ++ ys) → Each P xs
  Each-left [] ys p = tt
  Each-left (x ∷ xs) ys p = (p.0, Each-left xs ys p.1)

  pub Each-right : (xs ys : List A) → Each P (xs ++ ys) → Each P ys
  Each-right [] ys p = p
  Each-right (x ∷ xs) ys p = Each-right xs ys p.1

  pub Each-weaker : (Q : A → Type 0) → ((x : A) → P x → Q x) → (xs : List A) → Each P xs → Each Q xs
  Each-weaker Q f [] p = tt
  Each-weaker Q f (x ∷ xs) p = (f x p.0, Each-weaker Q f xs p.1)

module _ {A : Type 0} (R : A → A → Type 0) where
  pub Across-left : (xs ys zs : List A) → Across R (xs ++ ys) zs → Across R xs zs
  Across-left xs ys zs = Each-left (λ x. Each (R x) zs) xs ys

  pub Across-right : (xs ys zs : List A) → Across R (xs ++ ys) zs → Across R ys zs
  Across-right xs ys zs = Each-right (λ x. Each (R x) zs) xs ys

  pub Across-append : (xs ys zs : List A) → Across R xs zs → Across R ys zs → Across R (xs ++ ys) zs
  Across-append xs ys zs = Each-append (λ x. Each (R x) zs) xs ys

  pub Across-nil : (xs : List A) → Across R xs []
  Across-nil [] = tt
  Across-nil (x ∷ xs) = (tt, Across-nil xs)

  Across-cons : (xs : List A) (y : A) (ys : List A) → Each (λ x. R x y) xs → Across R xs ys → Across R xs (y ∷ ys)
  Across-cons [] y ys e c = tt
  Across-cons (x ∷ xs) y ys e c = ((e.0, c.0), Across-cons xs y ys e.1 c.1)

  pub Across-turn : ((x y : A) → R x y → R y x) → (xs ys : List A) → Across R xs ys → Across R ys xs
  Across-turn turn [] ys c = Across-nil ys
  Across-turn turn (x ∷ xs) ys c = Across-cons ys x xs (Each-weaker (R x) (λ y. R y x) (turn x) ys c.0)
      (Across-turn turn xs ys c.1)

module _ {A : Type 0} (P : A → Type 0) (R : A → A → Type 0) where
  pub Among-append : (xs ys : List A) → Among P R xs → Among P R ys → Across R xs ys → Among P R (xs ++ ys)
  Among-append [] ys p q c = q
  Among-append (x ∷ xs) ys p q c = (p.0, Each-append (R x) xs ys p.1 c.0, Among-append xs ys p.2 q c.1)

  pub Among-left : (xs ys : List A) → Among P R (xs ++ ys) → Among P R xs
  Among-left [] ys p = tt
  Among-left (x ∷ xs) ys p = (p.0, Each-left (R x) xs ys p.1, Among-left xs ys p.2)

  pub Among-right : (xs ys : List A) → Among P R (xs ++ ys) → Among P R ys
  Among-right [] ys p = p
  Among-right (x ∷ xs) ys p = Among-right xs ys p.2

  pub Across-from_among : (xs ys : List A) → Among P R (xs ++ ys) → Across R xs ys
  Across-from_among [] ys p = tt
  Across-from_among (x ∷ xs) ys p = (Each-right (R x) xs ys p.1, Across-from_among xs ys p.2)
