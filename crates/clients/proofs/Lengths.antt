-- The lengths of bins, one more at a time.
use Rattle.std.proofs.Common.{◌≡◌, ℕ, ◌+◌, ◌-◌, ◌^◌, ◌<◌, ◌==◌, ◌⊎◌, inl, inr, Bool, true, false, cond, List, [], ◌∷◌, ◌++◌}
use Rattle.std.proofs.Common.{length, map, max, min, sum, get_or, set, refl, sym, ap, ◌∙◌, arith}
use Rattle.std.specs.List.{count_by, sum_by}
use Rattle.std.proofs.lemmas.Bool.{cases_eq, eq-eqb, ne_eqb}
use Rattle.std.proofs.lemmas.Grind.{get_or-set_at}
use Rattle.std.proofs.lemmas.List.{get_or-set_other, length_push, map-append}
use Rattle.std.proofs.lemmas.List.Recursion.{max_push}
use Rattle.std.proofs.lemmas.List.Sums.{sum_by_push}
use Rattle.chm.specs.Visits.{VisitView}
use Rattle.clients.specs.Stats.{capped, greatest, lengths_of}

pub lengths_of-push : {K V : Type 0} (visits : List (VisitView K V)) (v : VisitView K V)
    → lengths_of (visits ++ v ∷ []) ≡ lengths_of visits ++ length v.entries ∷ []
lengths_of-push visits v = map-append (λ (w : VisitView _ _). length w.entries) visits (v ∷ [])

-- capped sums
pub capped-add : (a b x y : ℕ) → a ≡ capped x → b ≡ capped y → min (a + b) (2 ^ 64 - 1) ≡ capped (x + y)
capped-add a b x y a_is b_is = omega (arith, a_is, b_is)

pub capped-max : (a b x y : ℕ) → a ≡ capped x → b ≡ capped y → max a b ≡ capped (max x y)
capped-max a b x y a_is b_is = omega (arith, a_is, b_is)

pub capped-place : (a x : ℕ) → a ≡ capped x → min a 8 ≡ min x 8
capped-place a x a_is = omega (arith, a_is)

pub buckets-more : (lengths : List ℕ) (n count : ℕ) → count ≡ capped (length lengths)
    → min (count + 1) (2 ^ 64 - 1) ≡ capped (length (lengths ++ n ∷ []))
buckets-more lengths n count is =
    capped-add count 1 (length lengths) 1 is (omega arith) ∙ ap capped (sym (length_push lengths n))

pub greatest-push : (lengths : List ℕ) (n : ℕ) → greatest (lengths ++ n ∷ []) ≡ max (greatest lengths) n
greatest-push lengths n = max_push greatest (λ m. m) refl (λ m ms. refl) lengths n

pub count-push : (test : ℕ → Bool) (lengths : List ℕ) (n : ℕ)
    → count_by test (lengths ++ n ∷ []) ≡ count_by test lengths + cond (test n) 1 0
count-push test lengths n = sum_by_push (λ m. cond (test m) 1 0) lengths n

-- one bin more of so many entries is counted at its place
pub each-more : (counts lengths : List ℕ) (whole place : ℕ) → place ≡ min whole 8 → length counts ≡ 9 →
    ((k : ℕ) → k < 9 → get_or counts k 0 ≡ capped (count_by (λ n. min n 8 == k) lengths)) → (k : ℕ) → k < 9 →
    get_or (set counts place (min (get_or counts place 0 + 1) (2 ^ 64 - 1))) k 0
    ≡ capped (count_by (λ n. min n 8 == k) (lengths ++ whole ∷ []))
each-more counts lengths whole place is nine each k small = elim (cases_eq k place) [
  | inl here ↦
      let more = count-push (λ n. min n 8 == k) lengths whole in
      let hit : (min whole 8 == k) ≡ true = eq-eqb (min whole 8) k (sym is ∙ sym here) in
      let old : get_or counts place 0 ≡ capped (count_by (λ n. min n 8 == k) lengths) =
      ap (λ (i : ℕ). get_or counts i 0) (sym here) ∙ each k small in
      get_or-set_at counts place k (min (get_or counts place 0 + 1) (2 ^ 64 - 1)) 0 here (omega (arith, is, nine))
      ∙ capped-add (get_or counts place 0) 1 (count_by (λ n. min n 8 == k) lengths) 1 old (omega arith)
      ∙ ap (λ (b : Bool). capped (count_by (λ n. min n 8 == k) lengths + cond b 1 0)) (sym hit) ∙ ap capped (sym more)
  | inr other ↦
      let more = count-push (λ n. min n 8 == k) lengths whole in
      let miss : (min whole 8 == k) ≡ false = ne_eqb (min whole 8) k (λ e. other (sym e ∙ sym is)) in
      let same : count_by (λ n. min n 8 == k) lengths ≡ count_by (λ n. min n 8 == k) (lengths ++ whole ∷ []) =
      (let plus : count_by (λ n. min n 8 == k) lengths ≡ count_by (λ n. min n 8 == k) lengths + 0 = omega arith in plus)
      ∙ ap (λ (b : Bool). count_by (λ n. min n 8 == k) lengths + cond b 1 0) (sym miss) ∙ sym more in
      get_or-set_other counts place k (min (get_or counts place 0 + 1) (2 ^ 64 - 1)) 0 other ∙ each k small ∙ ap capped same
]
