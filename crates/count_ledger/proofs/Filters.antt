-- Filters of filters and of a list with one more member, and counts.
use Rattle.std.proofs.Common.{◌≡◌, ℕ, ◌+◌, ◌==◌, Bool, true, false, cond, List, [], ◌∷◌, ◌++◌, length, filter, count_by}
use Rattle.std.proofs.Common.{sum_by, All, refl, ap, ◌∙◌, arith}
use Rattle.std.proofs.lemmas.Bool.Decides.{nat_tests}
use Rattle.std.proofs.lemmas.Grind.{common_steps}
use Rattle.std.proofs.lemmas.List.{append-nil}
use Rattle.std.proofs.lemmas.List.Elements.{filter-append, All-head, All-tail}
use Rattle.std.proofs.lemmas.List.Sums.{sum_by-cons}

module _ {X : Type 0} (p : X → Bool) where
  pub filter_push_kept : (xs : List X) (x : X) → p x ≡ true → filter p (xs ++ x ∷ []) ≡ filter p xs ++ x ∷ []
  filter_push_kept xs x e = filter-append p xs (x ∷ []) ∙ ap (λ (b : Bool). filter p xs ++ cond b (x ∷ []) []) e

  pub filter_push_left : (xs : List X) (x : X) → p x ≡ false → filter p (xs ++ x ∷ []) ≡ filter p xs
  filter_push_left xs x e = filter-append p xs (x ∷ []) ∙ ap (λ (b : Bool). filter p xs ++ cond b (x ∷ []) []) e
      ∙ append-nil (filter p xs)

  -- a narrower test after a wider one
  pub filter_within : (q : X → Bool) → ((x : X) → p x ≡ true → q x ≡ true) → (xs : List X) →
      filter p (filter q xs) ≡ filter p xs
  filter_within q f [] = refl
  filter_within q f (x ∷ xs) = let ih = filter_within q f xs in let a = f x in grind (arith, common_steps)

  pub filter_turn : (q : X → Bool) (xs : List X) → filter p (filter q xs) ≡ filter q (filter p xs)
  filter_turn q [] = refl
  filter_turn q (x ∷ xs) = let ih = filter_turn q xs in grind (arith, common_steps)

  pub filter_none : (xs : List X) → All (λ x. p x ≡ false) xs → filter p xs ≡ []
  filter_none [] a = refl
  filter_none (x ∷ xs) a =
      ap (λ (b : Bool). cond b (x ∷ filter p xs) (filter p xs)) (All-head (λ (y : X). p y ≡ false) x xs a)
      ∙ filter_none xs (All-tail (λ (y : X). p y ≡ false) x xs a)

  pub count_by-cons : (x : X) (xs : List X) → count_by p (x ∷ xs) ≡ cond (p x) 1 0 + count_by p xs
  count_by-cons = sum_by-cons (λ y. cond (p y) 1 0)

pub length_is_sum : {X : Type 0} (xs : List X) → sum_by (λ _. 1) xs ≡ length xs
length_is_sum {X} [] = refl
length_is_sum {X} (x ∷ xs) = sum_by-cons (λ (_ : X). 1) x xs ∙ (let ih = length_is_sum xs in omega arith)

pub eqb_turn : (a b : ℕ) → (a == b) ≡ (b == a)
eqb_turn a b = grind (arith, nat_tests)
