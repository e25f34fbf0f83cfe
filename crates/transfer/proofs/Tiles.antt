-- The ranges of a move: how much they weigh.
use Rattle.std.proofs.Common.{◌≡◌, ℕ, zero, suc, ◌+◌, ◌-◌, ◌*◌, ◌<◌, ◌≤◌, min, ltb, leb, ◌&&◌, [], ◌∷◌, ◌++◌, refl}
use Rattle.std.proofs.Common.{sym}
use Rattle.std.proofs.Common.{ap, subst, ◌∙◌, arith, ⊎_elim}
use Rattle.std.specs.Prelude.{sum_by}
use Rattle.std.proofs.lemmas.List.Sums.{sum_by_push}
use Rattle.std.proofs.lemmas.Bool.{lt-ltb, le-ltb, cases_lt, cond-true, cond-false}
use Rattle.std.proofs.lemmas.Bool.Decides.{nat_tests}
use Rattle.transfer.specs.declared.range.Range.{Range}
use Rattle.transfer.specs.Ranges.{range_from, ranges, width}
use Rattle.transfer.specs.Books.{once}

ranges-more : (n k : ℕ) → 16 * k < n → ranges n (suc k) ≡ ranges n k ++ range_from n (16 * k) ∷ []
ranges-more n k h = cond-true (ltb (16 * k) n) (ranges n k ++ range_from n (16 * k) ∷ []) (ranges n k)
    (lt-ltb (16 * k) n h)

ranges-all : (n k : ℕ) → n ≤ 16 * k → ranges n (suc k) ≡ ranges n k
ranges-all n k h = cond-false (ltb (16 * k) n) (ranges n k ++ range_from n (16 * k) ∷ []) (ranges n k)
    (le-ltb (16 * k) n h)

-- what one range more weighs
pub weigh-more : (f : Range → ℕ) (n k : ℕ) → 16 * k < n → sum_by f (ranges n (suc k)) ≡ sum_by f (ranges n k) + f
    (range_from n (16 * k))
weigh-more f n k h = ap (sum_by f) (ranges-more n k h) ∙ sum_by_push f (ranges n k) (range_from n (16 * k))

pub weigh-all : (f : Range → ℕ) (n k : ℕ) → n ≤ 16 * k → sum_by f (ranges n (suc k)) ≡ sum_by f (ranges n k)
weigh-all f n k h = ap (sum_by f) (ranges-all n k h)

-- by induction on the number of ranges: what holds of the weight of none, and with each further range
module _ (f : Range → ℕ) (n : ℕ) (P : ℕ → ℕ → Type 0) (start : P 0 0) (more : (k w : ℕ) → 16 * k < n → P k w →
    P (suc k) (w + f (range_from n (16 * k))))
    (all : (k w : ℕ) → n ≤ 16 * k → P k w → P (suc k) w) where
  weighs : (k : ℕ) → P k (sum_by f (ranges n k))
  weighs zero = start
  weighs (suc k) =
      ⊎_elim (λ h. subst (P (suc k)) (sym (weigh-more f n k h)) (more k (sum_by f (ranges n k)) h (weighs k)))
      (λ h. subst (P (suc k)) (sym (weigh-all f n k h)) (all k (sum_by f (ranges n k)) h (weighs k)))
      (cases_lt (16 * k) n)

-- the first k ranges hold the bins below 16 k
pub width-ranges : (n k : ℕ) → sum_by width (ranges n k) ≡ min (16 * k) n
width-ranges n k = weighs width n (λ k w. w ≡ min (16 * k) n) (omega arith) (λ k w h e. omega (arith, h, e))
    (λ k w h e. omega (arith, h, e)) k

-- each of them holds a bin at least
pub count-ranges : (n k : ℕ) → (sum_by (λ _. 1) (ranges n k) ≤ k) × (sum_by (λ _. 1) (ranges n k) ≤ n)
count-ranges n k = weighs (λ _. 1) n (λ k w. (w ≤ k) × (w ≤ n)) (omega arith, omega arith)
    (λ k w h e. (omega (arith, e), omega (arith, h, e)))
    (λ k w h e. (omega (arith, e), e.1)) k

-- each of the first k ends at the bin 16 k or before
pub past-ranges : (n k : ℕ) → sum_by (λ r. r.hi - 16 * k) (ranges n k) ≡ 0
past-ranges n k = weighs (λ r. r.hi - 16 * k) n (λ j w. j ≤ k → w ≡ 0) (λ _. refl)
    (λ j w h e l. omega (arith, h, e (omega (arith, l)), l))
    (λ j w h e l. e (omega (arith, l))) k (omega arith)

-- 1 for a range that holds the bin
abbrev pub cover : ℕ → Range → ℕ
cover bin r = once (leb r.lo bin && ltb bin r.hi)

pub cover-le-width : (bin : ℕ) (r : Range) → cover bin r ≤ width r
cover-le-width bin r = grind (arith, nat_tests)

pub cover-ranges : (bin n k : ℕ) → bin < n → bin < 16 * k → 0 < sum_by (cover bin) (ranges n k)
cover-ranges bin n k h l = weighs (cover bin) n (λ j w. bin < 16 * j → 0 < w) (λ l. absurd (omega (arith, l)))
    (λ j w g e l. grind (arith, nat_tests))
    (λ j w g e l. e (omega (arith, g, h))) k l

-- none of them is empty
pub thin-ranges : (n k : ℕ) → sum_by (λ r. 1 - width r) (ranges n k) ≡ 0
thin-ranges n k = weighs (λ r. 1 - width r) n (λ j w. w ≡ 0) refl (λ j w h e. omega (arith, h, e)) (λ j w h e. e) k
