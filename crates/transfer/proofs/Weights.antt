-- Weights of lists: what a sum does where one element changes, and what it says of single elements.
use Rattle.std.proofs.Common.{◌≡◌, ℕ, zero, suc, ◌+◌, ◌<◌, ◌≤◌, Bool, true, cond, eqb, ◌&&◌, List, [], ◌∷◌, ◌++◌}
use Rattle.std.proofs.Common.{length, set, get_or, refl, sym, ap, subst}
use Rattle.std.proofs.Common.{zero-add, ◌∙◌, arith, ⊎_elim}
use Rattle.std.specs.Prelude.{sum_by, All, Any, Contains}
use Rattle.std.proofs.lemmas.List.Sums.{sum_by-cons, sum_by_push, sum_by-le-sum_by}
use Rattle.std.proofs.lemmas.List.Elements.{All-nil, All-cons, All-head, All-tail}
use Rattle.std.proofs.lemmas.Bool.{eqb-true, cases_lt, cases_Bool, and_parts, cond_both}
use Rattle.std.proofs.lemmas.Bool.Decides.{nat_tests}
use mathlib.Core.Option.{some, some-injective, some-ne-none}
use lib.ListN.{get_elem?}
use Rattle.transfer.specs.declared.range.Range.{Range}
use Rattle.transfer.specs.Books.{IsSubmultisetOf}

module _ {A : Type 0} where
  pub sum-set : (f : A → ℕ) (xs : List A) (i : ℕ) (x y : A) → get_elem? xs i ≡ some x →
      sum_by f (set xs i y) + f x ≡ sum_by f xs + f y
  sum-set f [] i x y at = absurd (some-ne-none x (sym at))
  sum-set f (z ∷ zs) zero x y at =
      let e : f z ≡ f x = ap f (some-injective z x at) in
      omega (arith, sum_by-cons f y zs, sum_by-cons f z zs)
  sum-set f (z ∷ zs) (suc i) x y at =
      omega (arith, sum-set f zs i x y at, sum_by-cons f z zs, sum_by-cons f z (set zs i y))

  pub weighs_at_most : (f : A → ℕ) (xs : List A) (i : ℕ) (x : A) → get_elem? xs i ≡ some x → f x ≤ sum_by f xs
  weighs_at_most f [] i x at = absurd (some-ne-none x (sym at))
  weighs_at_most f (z ∷ zs) zero x at =
      let e : f z ≡ f x = ap f (some-injective z x at) in
      omega (arith, sum_by-cons f z zs)
  weighs_at_most f (z ∷ zs) (suc i) x at = omega (arith, weighs_at_most f zs i x at, sum_by-cons f z zs)

  pub sum-add : (f g : A → ℕ) (xs : List A) → sum_by (λ x. f x + g x) xs ≡ sum_by f xs + sum_by g xs
  sum-add f g [] = refl
  sum-add f g (x ∷ xs) =
      omega (arith, sum-add f g xs, sum_by-cons (λ x. f x + g x) x xs, sum_by-cons f x xs, sum_by-cons g x xs)

  -- where the whole weighs something, so does one element
  pub some_weighs : (f : A → ℕ) (xs : List A) → 0 < sum_by f xs → Any (λ x. 0 < f x) xs
  some_weighs f [] h = absurd (omega (arith, h))
  some_weighs f (x ∷ xs) h =
      ⊎_elim (λ here. (0, x, (omega arith), refl, here))
      (λ none. let rest = some_weighs f xs (omega (arith, h, none, sum_by-cons f x xs)) in
      (suc rest.0, rest.1, (let l = rest.2 in omega arith), rest.3, rest.4))
      (cases_lt 0 (f x))

  -- where the whole weighs nothing, each element weighs nothing
  pub none_weighs : (f : A → ℕ) (xs : List A) → sum_by f xs ≡ 0 → All (λ x. f x ≡ 0) xs
  none_weighs f [] h = All-nil (λ x. f x ≡ 0)
  none_weighs f (x ∷ xs) h =
      All-cons (λ x. f x ≡ 0) x xs (omega (arith, h, sum_by-cons f x xs))
      (none_weighs f xs (omega (arith, h, sum_by-cons f x xs)))

  pub contains_at : (xs : List A) (i : ℕ) (x : A) → get_elem? xs i ≡ some x → Contains xs x
  contains_at [] i x at = absurd (some-ne-none x (sym at))
  contains_at (z ∷ zs) zero x at = (0, (omega arith), some-injective z x at)
  contains_at (z ∷ zs) (suc i) x at = let rest = contains_at zs i x at in
      (suc rest.0, (let l = rest.1 in omega arith), rest.2)

  pub contains_set : (xs : List A) (i : ℕ) (x y : A) → get_elem? xs i ≡ some x → Contains (set xs i y) y
  contains_set [] i x y at = absurd (some-ne-none x (sym at))
  contains_set (z ∷ zs) zero x y at = (0, (omega arith), refl)
  contains_set (z ∷ zs) (suc i) x y at = let rest = contains_set zs i x y at in
      (suc rest.0, (let l = rest.1 in omega arith), rest.2)

  pub sum-le : (f g : A → ℕ) (xs : List A) → All (λ x. f x ≤ g x) xs → sum_by f xs ≤ sum_by g xs
  sum-le f g [] h = omega arith
  sum-le f g (x ∷ xs) h =
      omega (
        arith,
        All-head (λ x. f x ≤ g x) x xs h,
        sum-le f g xs (All-tail (λ x. f x ≤ g x) x xs h),
        sum_by-cons f x xs,
        sum_by-cons g x xs,
      )

  pub length-weight : (xs : List A) → length xs ≡ sum_by (λ _. 1) xs
  length-weight [] = refl
  length-weight (x ∷ xs) = omega (arith, length-weight xs, sum_by-cons (λ _. 1) x xs)

-- a weight that leaves out one range
abbrev same : Range → Range → Bool
same r s = eqb s.lo r.lo && eqb s.hi r.hi

abbrev without : Range → (Range → ℕ) → Range → ℕ
without r f s = cond (same r s) 0 (f s)

same-itself : (r : Range) → same r r ≡ true
same-itself r = grind (arith, nat_tests)

same-true : (r s : Range) → same r s ≡ true → s ≡ r
same-true r s e =
    let p = and_parts (eqb s.lo r.lo) (eqb s.hi r.hi) e in
    let lo = eqb-true s.lo r.lo p.0 in
    let hi = eqb-true s.hi r.hi p.1 in
    λ i. record { lo = lo i; hi = hi i }

without-le : (f : Range → ℕ) (r s : Range) → without r f s ≤ f s
without-le f r s = cond_both (same r s) 0 (f s) (λ w. w ≤ f s) (λ _. omega arith) (λ _. omega arith)

without-at : (f : Range → ℕ) (r s : Range) → s ≡ r → without r f s + f r ≡ f s
without-at f r s e =
    subst (λ (t : Range). without r f t + f r ≡ f t) (sym e)
    (ap (λ (t : Bool). cond t 0 (f r) + f r) (same-itself r) ∙ zero-add (f r))

without-else : (f : Range → ℕ) (r s : Range) → (s ≡ r → ⊥) → without r f s ≡ f s
without-else f r s n =
    ⊎_elim (λ e. absurd (n (same-true r s e))) (λ e. ap (λ (t : Bool). cond t 0 (f s)) e) (cases_Bool (same r s))

-- a list that has the range weighs at least it more
with_range_at : (f : Range → ℕ) (r : Range) (xs : List Range) (k : ℕ) → k < length xs → get_or xs k r ≡ r →
    sum_by (without r f) xs + f r ≤ sum_by f xs
with_range_at f r [] k h e = absurd (omega arith)
with_range_at f r (x ∷ xs) zero h e =
    omega (
      arith,
      sum_by-cons f x xs,
      sum_by-cons (without r f) x xs,
      without-at f r x e,
      sum_by-le-sum_by (without r f) f xs (without-le f r),
    )
with_range_at f r (x ∷ xs) (suc k) h e =
    omega (
      arith,
      sum_by-cons f x xs,
      sum_by-cons (without r f) x xs,
      without-le f r x,
      with_range_at f r xs k (omega arith) e,
    )

-- and one that has it not weighs the same
no_range : (f : Range → ℕ) (r : Range) (xs : List Range) → ¬ Contains xs r → sum_by f xs ≤ sum_by (without r f) xs
no_range f r [] h = omega arith
no_range f r (x ∷ xs) h =
    omega (
      arith,
      sum_by-cons f x xs,
      sum_by-cons (without r f) x xs,
      without-else f r x (λ e. h (0, (omega arith), e)),
      no_range f r xs (λ c. h (suc c.0, (let l = c.1 in omega arith), c.2)),
    )

pub part-push : (xs ys : List Range) (r : Range) → IsSubmultisetOf xs ys → Contains ys r → ¬ Contains xs r →
    IsSubmultisetOf (xs ++ r ∷ []) ys
part-push xs ys r part there none f =
    omega (
      arith,
      sum_by_push f xs r,
      no_range f r xs none,
      part (without r f),
      with_range_at f r ys there.0 there.1 there.2,
    )
