-- The answers of queries but searches are a function of the map.
use Rattle.std.proofs.Common.{◌≡◌, ℕ, ℤ, zero, suc, pos, negsuc, Bool, true, false, cond, ◌++◌, ◌+ℤ◌, ◌≤ℤ◌, Option}
use Rattle.std.proofs.Common.{Some, None, List, [], ◌∷◌, length, refl}
use Rattle.std.proofs.Common.{sym, ap, ◌∙◌, arith, sum_by, All, Contains, IsPermutation, decimal}
use Rattle.std.proofs.lemmas.Int.{ints}
use Rattle.std.proofs.lemmas.List.Sorted.{IsPermutation-sym, IsPermutation-trans, IsPermutation-map}
use Rattle.std.proofs.lemmas.List.Sorted.{Contains-permutation, length_permutation}
use Rattle.std.proofs.lemmas.List.Sorted.{sum_by-IsPermutation}
use Rattle.std.proofs.lemmas.List.Sums.{sum_by-cons}
use Rattle.std.specs.Cmp.Lexicographic.{bytes_decides}
use Rattle.std.specs.Fmt.{signed_decimal}
use Rattle.std.specs.List.{flat_map}
use Rattle.bin_history.specs.Entries.{lookup, HasDistinctKeys}
use Rattle.script.specs.declared.script.Query.{Query}
use Rattle.script.specs.declared.script.Query.TheVariants.{Count, ReduceSum, ReduceMax, SearchAbove, List as Listing}
use Rattle.mapcli_core.specs.Determined.{HasNoSearch}
use Rattle.mapcli_core.specs.Outcomes.{same_key}
use Rattle.mapcli_core.specs.Texts.{output_line, option_text, pair_text, sum_of, IsGreatest, Answers, AnswersAll}
use Rattle.mapcli_core.proofs.Sorted.{Pair, OneEach, same_sorted}

-- how far a number is above 0, and how far below
abbrev up_to : ℤ → ℕ
up_to (pos n) = n
up_to (negsuc n) = 0

abbrev down_to : ℤ → ℕ
down_to (pos n) = 0
down_to (negsuc n) = suc n

parts : (z : ℤ) → z +ℤ pos (down_to z) ≡ pos (up_to z)
parts (pos n) = omega (arith, ints)
parts (negsuc n) = omega (arith, ints)

sum_parts : (vs : List ℤ) → sum_of vs +ℤ pos (sum_by down_to vs) ≡ pos (sum_by up_to vs)
sum_parts [] = refl
sum_parts (v ∷ vs) = let ih = sum_parts vs in let here = parts v in
    omega (arith, ints, sum_by-cons down_to v vs, sum_by-cons up_to v vs)

same_sum : (vs ws : List ℤ) → IsPermutation vs ws → sum_of vs ≡ sum_of ws
same_sum vs ws p =
    let a = sum_parts vs in
    let b = sum_parts ws in
    let up = sum_by-IsPermutation up_to vs ws p in
    let down = sum_by-IsPermutation down_to vs ws p in
    omega (arith, ints)

antisymmetric : (v w : ℤ) → v ≤ℤ w → w ≤ℤ v → v ≡ w
antisymmetric v w a b = omega (arith, ints)

at_most : (vs : List ℤ) (v w : ℤ) → Contains vs v → All (λ x. x ≤ℤ w) vs → v ≤ℤ w
at_most vs v w (k, l, is) all = let h = all k v l in rw is at h

same_greatest : (vs ws : List ℤ) (v w : Option ℤ) → IsPermutation vs ws → IsGreatest vs v → IsGreatest ws w → v ≡ w
same_greatest vs ws None None p h g = refl
same_greatest vs ws None (Some w) p h g = let n = length_permutation vs ws p in let e = ap length h in
    let (k, l, is) = g.0 in absurd (omega arith)
same_greatest vs ws (Some v) None p h g = let n = length_permutation vs ws p in let e = ap length g in
    let (k, l, is) = h.0 in absurd (omega arith)
same_greatest vs ws (Some v) (Some w) p h g =
    let there = Contains-permutation vs ws v p h.0 in
    let back = Contains-permutation ws vs w (IsPermutation-sym vs ws p) g.0 in
    ap Some (antisymmetric v w (at_most ws v w there g.1) (at_most vs w v back h.1))

-- where no key stands twice, each pair is looked up
looked_up : (es : List Pair) (x : Pair) → HasDistinctKeys same_key es → Contains es x →
    lookup same_key es x.0 ≡ Some x.1
looked_up [] x d (k, l, is) = absurd (omega arith)
looked_up (e ∷ es) x d (zero, l, is) = let own = (bytes_decides x.0 x.0).1 refl in
    let key : e.0 ≡ x.0 = ap (λ (p : Pair). p.0) is in
    let value : e.1 ≡ x.1 = ap (λ (p : Pair). p.1) is in rw (key, own, value) refl
looked_up (e ∷ es) x d (suc k, l, is) =
    let rest = looked_up es x d.1 (k, omega arith, is) in
    let apart = (bytes_decides e.0 x.0).0 in
    let none = d.0 in
    go (same_key e.0 x.0) refl rest
  where
    go : (b : Bool) → same_key e.0 x.0 ≡ b → lookup same_key es x.0 ≡ Some x.1 →
        cond b (Some e.1) (lookup same_key es x.0) ≡ Some x.1
    go true s rest = let key : e.0 ≡ x.0 = (bytes_decides e.0 x.0).0 s in let none : lookup same_key es x.0 ≡ None =
        rw (sym key) d.0 in absurd cc
    go false s rest = rest

-- a key has one value
one_each : (es : List Pair) → HasDistinctKeys same_key es → OneEach es
one_each es d a b p q e =
    let value : Some a.1 ≡ Some b.1 = sym (looked_up es a d p) ∙ ap (lookup same_key es) e ∙ looked_up es b d q in
    let values : a.1 ≡ b.1 = cc in
    λ i. (e i, values i)

-- the answers of a query but a search are those of any list of the same pairs
same_answer : (ps qs : List Pair) (q : Query) (t u : List ℕ) → IsPermutation ps qs → HasDistinctKeys same_key ps →
    HasNoSearch (q ∷ []) → Answers ps q t
    → Answers qs q u → t ≡ u
same_answer ps qs Count t u p d n a b = a ∙ ap (λ (k : ℕ). output_line (decimal k)) (sym (length_permutation ps qs p))
    ∙ sym b
same_answer ps qs (ReduceSum th) t u p d n a b = a
    ∙ ap (λ (z : ℤ). output_line (signed_decimal z)) (same_sum _ _ (IsPermutation-map (λ (e : Pair). e.1) ps qs p))
    ∙ sym b
same_answer ps qs (ReduceMax th) t u p d n (v, h, is) (w, g, is') =
    is ∙ ap (λ (o : Option ℤ). output_line (option_text o))
    (same_greatest _ _ v w (IsPermutation-map (λ (e : Pair). e.1) ps qs p) h g) ∙ sym is'
same_answer ps qs (SearchAbove v th) t u p d n a b = absurd n
same_answer ps qs (Listing th) t u p d n (s, sp, ss, is) (r, rp, rs, is') =
    let both : IsPermutation s r = IsPermutation-trans s ps r (IsPermutation-sym ps s sp)
    (IsPermutation-trans ps qs r p rp) in
    let one : OneEach s = λ a b x y e. one_each ps d a b (Contains-permutation s ps a (IsPermutation-sym ps s sp) x)
    (Contains-permutation s ps b (IsPermutation-sym ps s sp) y) e in
    is ∙ ap (flat_map (λ (e : Pair). output_line (pair_text e)))
    (same_sorted s r ss rs (λ f. sym (sum_by-IsPermutation f s r both)) one) ∙ sym is'

no_search_first : (q : Query) (qs : List Query) → HasNoSearch (q ∷ qs) → HasNoSearch (q ∷ [])
no_search_first Count qs n = tt
no_search_first (ReduceSum t) qs n = tt
no_search_first (ReduceMax t) qs n = tt
no_search_first (SearchAbove v t) qs n = absurd n
no_search_first (Listing t) qs n = tt

no_search_rest : (q : Query) (qs : List Query) → HasNoSearch (q ∷ qs) → HasNoSearch qs
no_search_rest Count qs n = n
no_search_rest (ReduceSum t) qs n = n
no_search_rest (ReduceMax t) qs n = n
no_search_rest (SearchAbove v t) qs n = absurd n
no_search_rest (Listing t) qs n = n

pub same_answers : (ps rs : List Pair) (qs : List Query) (t u : List ℕ) → IsPermutation ps rs →
    HasDistinctKeys same_key ps → HasNoSearch qs
    → AnswersAll ps qs t → AnswersAll rs qs u → t ≡ u
same_answers ps rs [] t u p d n a b = a ∙ sym b
same_answers ps rs (q ∷ qs) t u p d n (x, y, one, more, is) (x', y', one', more', is') =
    let first = same_answer ps rs q x x' p d (no_search_first q qs n) one one' in
    let rest = same_answers ps rs qs y y' p d (no_search_rest q qs n) more more' in
    is ∙ (λ i. first i ++ rest i) ∙ sym is'
