-- Two sorted lists of the same pairs, no key of which stands twice, are the same list.
use Rattle.std.proofs.Common.{◌≡◌, ℕ, ℤ, suc, Bool, true, false, cond, ◌+◌, ◌<◌, ◌&&◌, List, [], ◌∷◌, refl, sym, ap}
use Rattle.std.proofs.Common.{◌∙◌, subst, arith, add-one, sum_by}
use Rattle.std.proofs.Common.{Contains, IsSortedByKey, is_lt}
use Rattle.std.proofs.lemmas.Grind.{common_steps}
use Rattle.std.proofs.lemmas.Cmp.{nat_list_cmp_total}
use Rattle.std.proofs.lemmas.List.Elements.{Contains-append_right}
use Rattle.std.proofs.lemmas.List.Sums.{sum_by-cons}
use Rattle.std.proofs.lemmas.List.Sorted.{ranks_by, sorted_far}
use Rattle.std.specs.Cmp.{signed_Decides}
use Rattle.std.specs.Cmp.Lexicographic.{slice_cmp, bytes_decides}
use Rattle.std.specs.FinMap.{slice_cmp-IsAntisymmetric, nat_cmp-IsAntisymmetric}
use Rattle.std.specs.Ordering.{nat_cmp, int_eq, ordering_reverse}
use Rattle.std.specs.declared.cmp.Ordering.{Ordering}
use Rattle.std.specs.declared.cmp.Ordering.TheVariants.{Less, Equal, Greater}
use Rattle.mapcli_core.specs.Outcomes.{same_key}

abbrev pub Pair : Type 0
Pair = List ℕ × ℤ

abbrev same : Pair → Pair → Bool
same x y = same_key x.0 y.0 && int_eq x.1 y.1

same_self : (x : Pair) → same x x ≡ true
same_self x = let a = (bytes_decides x.0 x.0).1 refl in let b = (signed_Decides x.1 x.1).1 refl in
    grind (arith, common_steps)

same_only : (x y : Pair) → same x y ≡ true → x ≡ y
same_only x y h = go (same_key x.0 y.0) refl h where
  go : (b : Bool) → same_key x.0 y.0 ≡ b → (b && int_eq x.1 y.1) ≡ true → x ≡ y
  go true k v = λ i. ((bytes_decides x.0 y.0).0 k i, (signed_Decides x.1 y.1).0 v i)
  go false k v = absurd cc

abbrev weight_at : Pair → Pair → ℕ
weight_at x y = cond (same y x) 1 0

-- what weighs something at a pair has it
there : (ys : List Pair) (x : Pair) → 0 < sum_by (weight_at x) ys → Contains ys x
there [] x h = absurd (omega arith)
there (y ∷ ys) x h = go (there ys x) (same y x) refl (rw (sum_by-cons (weight_at x) y ys) at h) where
  go : (0 < sum_by (weight_at x) ys → Contains ys x) → (b : Bool) → same y x ≡ b →
      0 < cond b 1 0 + sum_by (weight_at x) ys → Contains (y ∷ ys) x
  go rest true s h = (0, omega arith, same_only y x s)
  go rest false s h = Contains-append_right (y ∷ []) ys x (rest (omega arith))

weighs : (x : Pair) (xs : List Pair) → 0 < sum_by (weight_at x) (x ∷ xs)
weighs x xs = let s : weight_at x x ≡ 1 = rw (same_self x) refl in omega (arith, sum_by-cons (weight_at x) x xs)

-- keys of which neither is less are one key
tied : (x y : List ℕ) → is_lt (slice_cmp nat_cmp x y) ≡ false → is_lt (slice_cmp nat_cmp y x) ≡ false → x ≡ y
tied x y = go (slice_cmp nat_cmp x y) refl where
  go : (o : Ordering) → slice_cmp nat_cmp x y ≡ o → is_lt o ≡ false → is_lt (slice_cmp nat_cmp y x) ≡ false → x ≡ y
  go Less e h g = absurd cc
  go Equal e h g = slice_cmp-IsAntisymmetric nat_cmp-IsAntisymmetric x y e
  go Greater e h g =
      let turned : slice_cmp nat_cmp y x ≡ Less = nat_list_cmp_total.antisymm y x ∙ ap ordering_reverse e in
      let less : true ≡ false = sym (ap is_lt turned) ∙ g in
      absurd cc

abbrev pub SameWeights : List Pair → List Pair → Type 0
SameWeights xs ys = (f : Pair → ℕ) → sum_by f xs ≡ sum_by f ys

abbrev pub OneEach : List Pair → Type 0
OneEach xs = (a b : Pair) → Contains xs a → Contains xs b → a.0 ≡ b.0 → a ≡ b

abbrev pub Sorted : List Pair → Type 0
Sorted xs = IsSortedByKey (λ e. e.0) (slice_cmp nat_cmp) xs

-- no later key is less than the first
first_least : (x : Pair) (xs : List Pair) (y : Pair) → Sorted (x ∷ xs) → Contains (x ∷ xs) y →
    is_lt (slice_cmp nat_cmp y.0 x.0) ≡ false
first_least x xs y up (k, l, is) =
    let far = sorted_far (λ a b. is_lt (slice_cmp nat_cmp a.0 b.0)) (ranks_by nat_list_cmp_total (λ (e : Pair). e.0))
    (x ∷ xs) up 0 k y (omega arith) l in
    rw is at far

Sorted-tail : (x : Pair) (xs : List Pair) → Sorted (x ∷ xs) → Sorted xs
Sorted-tail x xs up = λ k d low high. let h = up (suc k) d (omega arith) (omega arith) in rw add-one (rw add-one at h)

pub same_sorted : (xs ys : List Pair) → Sorted xs → Sorted ys → SameWeights xs ys → OneEach xs → xs ≡ ys
same_sorted [] [] u v w o = refl
same_sorted [] (y ∷ ys) u v w o = let e = w (λ _. 1) in absurd (omega (arith, sum_by-cons (λ (p : Pair). 1) y ys))
same_sorted (x ∷ xs) [] u v w o = let e = w (λ _. 1) in absurd (omega (arith, sum_by-cons (λ (p : Pair). 1) x xs))
same_sorted (x ∷ xs) (y ∷ ys) u v w o =
    let in_first : Contains (x ∷ xs) x = (0, omega arith, refl) in
    let y_in : Contains (x ∷ xs) y = there (x ∷ xs) y (let e = w (weight_at y) in let p = weighs y ys in omega arith) in
    let x_in : Contains (y ∷ ys) x = there (y ∷ ys) x (let e = w (weight_at x) in let p = weighs x xs in omega arith) in
    let key : x.0 ≡ y.0 = tied x.0 y.0 (first_least y ys x v x_in) (first_least x xs y u y_in) in
    let one : x ≡ y = o x y in_first y_in key in
    let P : Pair → Type 0 = λ z. SameWeights (x ∷ xs) (z ∷ ys) in
    let both = subst P (sym one) w in
    let rest : SameWeights xs ys = λ f. let e = both f in omega (arith, sum_by-cons f x xs, sum_by-cons f x ys) in
    λ i. one i ∷ same_sorted xs ys (Sorted-tail x xs u) (Sorted-tail y ys v) rest
    (λ a b p q. o a b (Contains-append_right (x ∷ []) xs a p) (Contains-append_right (x ∷ []) xs b q)) i
