-- Folds of the same pairs in another order.
use Rattle.std.proofs.Common.{◌≡◌, ℕ, zero, suc, ◌<◌, List, [], ◌∷◌, length, get_or, set, Option, Some, None, refl, ap}
use Rattle.std.proofs.Common.{sym, ◌∙◌, arith}
use Rattle.std.specs.List.Sorted.{IsPermutation}
use Rattle.std.specs.List.{swap}
use Rattle.std.proofs.lemmas.List.Sorted.{IsPermutation-keeps}
use Rattle.bulk_tasks.specs.Folds.{fold_from, plain_fold, IsAssociative, IsCommutative}
use Rattle.bulk_tasks.proofs.Folding.{joined_from}

module _ {K V A : Type 0} (lift : K → V → A) (join : A → A → A) (associative : IsAssociative join)
    (commutative : IsCommutative join) where
  onto : A → Option A → Option A
  onto a None = Some a
  onto a (Some b) = Some (join a b)

  first_onto : (e : K × V) (es : List (K × V)) → onto (lift e.0 e.1) (plain_fold lift join es)
      ≡ plain_fold lift join (e ∷ es)
  unfolding onto
  first_onto e [] = refl
  first_onto e (f ∷ es) = ap Some (joined_from lift join associative (lift e.0 e.1) (lift f.0 f.1) es)

  behind : (e : K × V) (es fs : List (K × V)) → plain_fold lift join es ≡ plain_fold lift join fs
      → plain_fold lift join (e ∷ es) ≡ plain_fold lift join (e ∷ fs)
  behind e es fs h = sym (first_onto e es) ∙ ap (onto (lift e.0 e.1)) h ∙ first_onto e fs

  turned : (e f : K × V) (es : List (K × V)) → plain_fold lift join (e ∷ f ∷ es) ≡ plain_fold lift join (f ∷ e ∷ es)
  turned e f es = ap (λ a. Some (fold_from lift join a es)) (commutative (lift e.0 e.1) (lift f.0 f.1))

  exchanged : (es : List (K × V)) (k : ℕ) (e d : K × V) → k < length es
      → plain_fold lift join (get_or es k d ∷ set es k e) ≡ plain_fold lift join (e ∷ es)
  exchanged [] k e d h = absurd (omega arith)
  exchanged (f ∷ es) zero e d h = turned f e es
  exchanged (f ∷ es) (suc k) e d h = turned (get_or es k d) f (set es k e)
      ∙ behind f (get_or es k d ∷ set es k e) (e ∷ es) (exchanged es k e d (omega arith)) ∙ turned f e es

  swapped : (es : List (K × V)) (i j : ℕ) (d : K × V) → i < length es → j < length es
      → plain_fold lift join (set (set es i (get_or es j d)) j (get_or es i d)) ≡ plain_fold lift join es
  swapped [] i j d p q = absurd (omega arith)
  swapped (e ∷ es) zero zero d p q = refl
  swapped (e ∷ es) zero (suc j) d p q = exchanged es j e d (omega arith)
  swapped (e ∷ es) (suc i) zero d p q = exchanged es i e d (omega arith)
  swapped (e ∷ es) (suc i) (suc j) d p q = behind e (set (set es i (get_or es j d)) j (get_or es i d)) es
      (swapped es i j d (omega arith) (omega arith))

  step : (es : List (K × V)) (i j : ℕ) → i < length es → j < length es → plain_fold lift join (swap es i j)
      ≡ plain_fold lift join es
  step [] i j p q = refl
  step (e ∷ es) i j p q = swapped (e ∷ es) i j e p q

  pub any_order : (es fs : List (K × V)) → IsPermutation es fs → plain_fold lift join fs ≡ plain_fold lift join es
  any_order es fs = IsPermutation-keeps es (λ l. plain_fold lift join l ≡ plain_fold lift join es) refl
      (λ l i j p q h. step l i j p q ∙ h) fs
