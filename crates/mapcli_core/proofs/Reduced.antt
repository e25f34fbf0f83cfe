-- What bulk operations on pairs answer, as queries ask it.
use Rattle.std.proofs.Common.{◌≡◌, T, not, ℤ, pos, ◌+ℤ◌, ◌≤ℤ◌, ◌<ℤ◌, Bool, true, false, cond, Option, Some, None, List}
use Rattle.std.proofs.Common.{[], ◌∷◌, ◌++◌, map, fold, All, Contains}
use Rattle.std.proofs.Common.{refl, sym, ap, subst, ◌∙◌, arith, append_assoc}
use Rattle.std.proofs.lemmas.Int.{ints, clamps}
use Rattle.std.proofs.Math.ListN.{get_or-map}
use Rattle.std.proofs.lemmas.List.{append-nil, length-map}
use Rattle.std.proofs.lemmas.List.Elements.{All-push, All-nil, All-map, All-weaker, Contains-push, Contains-append_left}
use Rattle.std.specs.Int.{int_max}
use Rattle.std.specs.Int.Signed.{lt_z, lt_z_yes, lt_z_no}
use Rattle.bulk_tasks.specs.Actions.{answers}
use Rattle.bulk_tasks.specs.Folds.{fold_from, plain_fold}
use Rattle.bulk_tasks.specs.Searches.{IsSearched}
use Rattle.mapcli_core.specs.Above.{above}
use Rattle.mapcli_core.specs.Texts.{sum_of, IsGreatest, IsAbove}

abbrev value_or : ℤ → Option ℤ → ℤ
value_or d None = d
value_or d (Some v) = v

abbrev greater_of : Option ℤ → ℤ → Option ℤ
greater_of None v = Some v
greater_of (Some x) v = Some (int_max x v)

IsGreatest-push : (vs : List ℤ) (best : Option ℤ) (v : ℤ) → IsGreatest vs best →
    IsGreatest (vs ++ v ∷ []) (greater_of best v)
IsGreatest-push vs None v h = (
  Contains-push vs v,
  All-push (λ x. x ≤ℤ v) vs v (let P : List ℤ → Type 0 = λ xs. All (λ x. x ≤ℤ v) xs in
      subst P (sym h) (All-nil (λ x. x ≤ℤ v))) (omega (arith, ints)),
)
IsGreatest-push vs (Some x) v h =
    let m : ℤ = int_max x v in
    let C : ℤ → Type 0 = λ y. Contains (vs ++ v ∷ []) y in
    let there : (b : Bool) → C (cond b x v) =
    elim [ true ↦ Contains-append_left vs (v ∷ []) x h.0 | false ↦ Contains-push vs v ] in
    let over : x ≤ℤ m = omega (arith, clamps, ints) in (
      there (lt_z v x),
      All-push (λ y. y ≤ℤ m) vs v (All-weaker (λ y. y ≤ℤ x) (λ y. y ≤ℤ m) (λ y l. omega (arith, ints)) vs h.1)
          (omega (arith, clamps, ints)),
    )

contains_map : {X Y : Type 0} (f : X → Y) (xs : List X) (x : X) → Contains xs x → Contains (map f xs) (f x)
contains_map f xs x (k, lt, is) = (k, (let same = length-map xs f in omega arith), get_or-map f xs k x ∙ ap f is)

-- a fold of sums is the sum
sum_onto : (vs : List ℤ) (a : ℤ) → fold (λ x y. x +ℤ y) a vs ≡ a +ℤ sum_of vs
sum_onto [] a = omega (arith, ints)
sum_onto (v ∷ vs) a = let rest = sum_onto vs (a +ℤ v) in omega (arith, ints)

greatest_onto : (vs done : List ℤ) (b : ℤ) → IsGreatest done (Some b) →
    IsGreatest (done ++ vs) (Some (fold int_max b vs))
greatest_onto [] done b is = subst (λ (l : List ℤ). IsGreatest l (Some b)) (sym (append-nil done)) is
greatest_onto (v ∷ vs) done b is = subst (λ (l : List ℤ). IsGreatest l (Some (fold int_max (int_max b v) vs)))
    (append_assoc done (v ∷ []) vs)
    (greatest_onto vs (done ++ v ∷ []) (int_max b v) (IsGreatest-push done (Some b) v is))

found_above : (bound v u : ℤ) → above bound v ≡ Some u → (bound <ℤ v) × (v ≡ u)
found_above bound v u is = go (lt_z bound v) refl is where
  go : (b : Bool) → lt_z bound v ≡ b → cond b (Some v) None ≡ Some u → (bound <ℤ v) × (v ≡ u)
  go true lt found = (lt_z_yes (subst T (sym lt) tt), ap (value_or v) found)
  go false lt found = absurd cc

none_above : (bound v : ℤ) → above bound v ≡ None → v ≤ℤ bound
none_above bound v is = go (lt_z bound v) refl is where
  go : (b : Bool) → lt_z bound v ≡ b → cond b (Some v) None ≡ None → v ≤ℤ bound
  go true lt found = absurd cc
  go false lt found = lt_z_no (subst (λ (b : Bool). T (not b)) (sym lt) tt)

module _ {K : Type 0} where
  -- the pairs themselves
  pub answers-pairs : (es : List (K × ℤ)) → answers (λ k v. (k, v)) es ≡ es
  answers-pairs [] = refl
  answers-pairs (e ∷ es) = ap (λ (l : List (K × ℤ)). e ∷ l) (answers-pairs es)

  pub sum-folded : (es : List (K × ℤ)) → fold_from (λ k v. v) (λ x y. x +ℤ y) (pos 0) es ≡ sum_of (map (λ e. e.1) es)
  sum-folded es = sum_onto (map (λ e. e.1) es) (pos 0) ∙ (let s = sum_of (map (λ e. e.1) es) in omega (arith, ints))

  -- a fold of greater values is the greatest
  pub greatest-folded : (es : List (K × ℤ)) → IsGreatest (map (λ e. e.1) es) (plain_fold (λ k v. v) int_max es)
  greatest-folded [] = refl
  greatest-folded (e ∷ es) = greatest_onto (map (λ x. x.1) es) (e.1 ∷ []) e.1 (IsGreatest-push [] None e.1 refl)

  -- what a search for values above a bound finds is one, and none where there is none
  pub above-searched : (bound : ℤ) (es : List (K × ℤ)) (found : Option ℤ) →
      IsSearched (λ (k : K) v. above bound v) es found
      → IsAbove bound (map (λ e. e.1) es) found
  above-searched bound es None none = All-map (λ x. x ≤ℤ bound) (λ (e : K × ℤ). e.1) es
      (All-weaker (λ (e : K × ℤ). above bound e.1 ≡ None) (λ e. e.1 ≤ℤ bound) (λ e is. none_above bound e.1 is) es none)
  above-searched bound es (Some u) (e, there, is) =
      let (over, same) = found_above bound e.1 u is in
      subst (λ (v : ℤ). Contains (map (λ (x : K × ℤ). x.1) es) v × (bound <ℤ v)) same
      (contains_map (λ (x : K × ℤ). x.1) es e there, over)
