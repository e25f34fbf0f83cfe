-- Folds of lists that lie side by side.
use Rattle.std.proofs.Common.{◌≡◌, ℕ, ◌<◌, ◌^◌, List, [], ◌∷◌, ◌++◌, Option, Some, None}
use Rattle.std.proofs.Common.{refl, ap, sym, ◌∙◌, subst, arith}
use Rattle.std.specs.Prelude.{fold, map, unwrap_or, IfSome, MatchOption, Bool, IsTrue, IsErrAnd, Result, Ok, Err}
use Rattle.std.specs.declared.alloc.AllocError.{AllocError}
use Rattle.std.proofs.lemmas.Grind.{fold-append}
use Rattle.std.proofs.lemmas.List.{map-append}
use Rattle.bulk_tasks.specs.Folds.{fold_from, plain_fold, AreOfFew, IsAssociative, IsFolded}

none_ne_some : {A : Type 0} (a : A) → None ≡ Some a → ⊥
none_ne_some {A} a h = let P : Option A → Type 0 = λ o. MatchOption o (Unit {0}) (λ _. ⊥) in subst P h tt

-- a basis, which is of no pairs, and a value of fewer than 2^64
pub few_with_basis : {A : Type 0} → (within : ℕ → A → Type 0) (basis : A) (n : ℕ) (folded : Option A)
    → n < 2 ^ 64 → within 0 basis → IfSome folded (within n) → IfSome folded (AreOfFew within basis)
few_with_basis within basis n None few b h = tt
few_with_basis within basis n (Some a) few b h = (0, n, b, h, omega (arith, few))

module _ {K V A : Type 0} (lift : K → V → A) (join : A → A → A) where
  pub from_both : (a : A) (es fs : List (K × V)) → fold_from lift join a (es ++ fs) ≡ fold_from lift join
      (fold_from lift join a es) fs
  from_both a es fs = ap (fold join a) (map-append (λ e. lift e.0 e.1) es fs)
      ∙ fold-append join a (map (λ e. lift e.0 e.1) es) (map (λ e. lift e.0 e.1) fs)

  -- a list begun with a pair
  pub begun : (e : K × V) (es fs : List (K × V))
      → Some (fold_from lift join (fold_from lift join (lift e.0 e.1) es) fs) ≡ plain_fold lift join (e ∷ es ++ fs)
  begun e es fs = ap Some (sym (from_both (lift e.0 e.1) es fs))

  module _ (associative : IsAssociative join) where
    pub joined_from : (a b : A) (es : List (K × V)) → join a (fold_from lift join b es)
        ≡ fold_from lift join (join a b) es
    joined_from a b [] = refl
    joined_from a b (e ∷ es) = joined_from a (join b (lift e.0 e.1)) es
        ∙ ap (λ c. fold_from lift join c es) (sym (associative a b (lift e.0 e.1)))

    -- the fold of both is the join of the folds
    pub fold_both : (a b : A) (es fs : List (K × V)) → Some a ≡ plain_fold lift join es →
        Some b ≡ plain_fold lift join fs
        → Some (join a b) ≡ plain_fold lift join (es ++ fs)
    fold_both a b [] fs h k = absurd (none_ne_some _ (sym h))
    fold_both a b (e ∷ es) [] h k = absurd (none_ne_some _ (sym k))
    fold_both a b (e ∷ es) (f ∷ fs) h k =
        let all = fold_from lift join (lift e.0 e.1) es in
        let x : a ≡ all = ap (λ o. unwrap_or o a) h in
        let y : b ≡ fold_from lift join (lift f.0 f.1) fs = ap (λ o. unwrap_or o b) k in
        ap (λ c. Some (join c b)) x ∙ ap (λ c. Some (join all c)) y
        ∙ ap Some (joined_from all (lift f.0 f.1) fs ∙ sym (from_both (lift e.0 e.1) es (f ∷ fs)))

    -- the fold from a basis is the basis joined with the plain fold
    pub fold_based : (basis a : A) (es : List (K × V)) → Some a ≡ plain_fold lift join es →
        join basis a ≡ fold_from lift join basis es
    fold_based basis a [] h = absurd (none_ne_some _ (sym h))
    fold_based basis a (e ∷ es) h = ap (λ o. join basis (unwrap_or o a)) h ∙ joined_from basis (lift e.0 e.1) es

-- a fold that was refused memory, by a reducer that may be
pub IsFolded-refused : {K V A : Type 0} (lift : K → V → A) (join : A → A → A) (within : ℕ → A → Type 0) (never_refuses : Bool)
    (es : List (K × V)) (r : Result (Option A) AllocError) (P : AllocError → Type 0) → IsErrAnd r P → ¬ IsTrue never_refuses
    → IsFolded lift join within never_refuses es r
IsFolded-refused lift join within never_refuses es (Ok a) P is may = absurd is
IsFolded-refused lift join within never_refuses es (Err e) P is may = may
