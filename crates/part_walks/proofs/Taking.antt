-- What a filter keeps, one element further, and of all elements.
use Rattle.std.proofs.Common.{◌≡◌, Bool, true, false, cond, List, [], ◌∷◌, ◌++◌, All, filter, refl, ap, ◌∙◌}
use Rattle.std.proofs.lemmas.List.{append-nil}
use Rattle.std.proofs.lemmas.List.Elements.{All-head, All-tail, filter-append}

module _ {X : Type 0} (p : X → Bool) where
  one : (xs : List X) (x : X) (b : Bool) → p x ≡ b → filter p (xs ++ x ∷ []) ≡ filter p xs ++ cond b (x ∷ []) []
  one xs x b e = filter-append p xs (x ∷ []) ∙ ap (λ (c : Bool). filter p xs ++ cond c (x ∷ []) []) e

  pub filter-kept : (xs : List X) (x : X) → p x ≡ true → filter p (xs ++ x ∷ []) ≡ filter p xs ++ x ∷ []
  filter-kept xs x e = one xs x true e

  pub filter-left : (xs : List X) (x : X) → p x ≡ false → filter p (xs ++ x ∷ []) ≡ filter p xs
  filter-left xs x e = one xs x false e ∙ append-nil (filter p xs)

  pub filter-all : (xs : List X) → All (λ x. p x ≡ true) xs → filter p xs ≡ xs
  filter-all [] all = refl
  filter-all (x ∷ xs) all =
      ap (λ (b : Bool). cond b (x ∷ filter p xs) (filter p xs)) (All-head (λ y. p y ≡ true) x xs all)
      ∙ ap (λ (ys : List X). x ∷ ys) (filter-all xs (All-tail (λ y. p y ≡ true) x xs all))
