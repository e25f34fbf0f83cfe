-- The words of the lanes, as calls are posted.
use Rattle.std.proofs.Common.{◌≡◌, ℕ, ◌+◌, ◌*◌, ◌%◌, ◌^◌, ◌<◌, ◌==◌, ℤ}
use Rattle.std.proofs.Common.{pos, ◌+ℤ◌, List, [], ◌∷◌, ◌++◌, length, set}
use Rattle.std.proofs.Common.{refl, sym, ap, subst, ◌∙◌, ⊎_elim, arith}
use Rattle.std.specs.Prelude.{slice_index}
use Rattle.std.proofs.lemmas.Int.{ints}
use Rattle.std.proofs.lemmas.List.{get_or-set_same, get_or-set_other}
use Rattle.std.proofs.lemmas.Bool.{cases_eq, eq-eqb, ne_eqb}
use Rattle.bin_history.specs.Deltas.{delta, sum_of_deltas}
use Rattle.bin_history.specs.Records.{RecordView}
use Rattle.count_ledger.specs.Words.{word_of, lane_of, of_lane, AreCounted}
use Rattle.count_ledger.proofs.Filters.{filter_push_kept, filter_push_left}
use Rattle.count_ledger.proofs.WordSums.{word_of-add, word_of_natural, sum_of_deltas-push}

pub word_of_zero : word_of (pos 0) ≡ 0
word_of_zero = word_of_natural 0 (omega arith)

no_more : (s : ℤ) → s +ℤ pos 0 ≡ s
no_more s = omega (arith, ints)

-- a sum to which a number is added whose word is 0
word_of_still : (s d : ℤ) → word_of d ≡ 0 → word_of (s +ℤ d) ≡ word_of s
word_of_still s d none =
    word_of-add s d
    ∙ ap (λ (n : ℕ). (word_of s + n) % 2 ^ 64) (none ∙ sym word_of_zero)
    ∙ sym (word_of-add s (pos 0))
    ∙ ap word_of (no_more s)

pub AreCounted-opening : (K V F : Type 0) (words : List ℕ) → ((i : ℕ) → slice_index words i ≡ 0) →
    AreCounted {K = K} {V = V} {F = F} words []
AreCounted-opening K V F words zeros = λ lane few. zeros (8 * (lane + 1)) ∙ sym word_of_zero

-- the sum of a pass, and a record more
pub summed_push : {K V F : Type 0} (made : List (RecordView K V F)) (r : RecordView K V F) (sum more : ℕ)
    → sum ≡ word_of (sum_of_deltas made) → more ≡ word_of (delta r)
    → (sum + more) % 2 ^ 64 ≡ word_of (sum_of_deltas (made ++ r ∷ []))
summed_push made r sum more sum_is more_is =
    ap (λ (n : ℕ). (n + more) % 2 ^ 64) sum_is
    ∙ ap (λ (n : ℕ). (word_of (sum_of_deltas made) + n) % 2 ^ 64) more_is
    ∙ sym (word_of-add (sum_of_deltas made) (delta r))
    ∙ ap word_of (sym (sum_of_deltas-push made r))

module _ {K V F : Type 0} (c : ℕ) (r : RecordView K V F) (by : r.client ≡ c) (words : List ℕ)
    (calls : List (RecordView K V F)) (counted : AreCounted words calls) where
  -- the calls of the record's lane, and those of another
  its : of_lane (lane_of c) (calls ++ r ∷ []) ≡ of_lane (lane_of c) calls ++ r ∷ []
  its = filter_push_kept (λ x. lane_of x.client == lane_of c) calls r (eq-eqb _ _ (ap lane_of by))

  others : (lane : ℕ) → (lane ≡ lane_of c → ⊥) → of_lane lane (calls ++ r ∷ []) ≡ of_lane lane calls
  others lane other = filter_push_left (λ x. lane_of x.client == lane) calls r
      (ne_eqb _ _ (λ q. other (sym q ∙ ap lane_of by)))

  -- the word of the record's lane has its delta more
  pub AreCounted-posted : length words ≡ 264
      → AreCounted
      (set words (8 * (lane_of c + 1)) ((slice_index words (8 * (lane_of c + 1)) + word_of (delta r)) % 2 ^ 64))
      (calls ++ r ∷ [])
  AreCounted-posted sized lane few =
      let at = 8 * (lane_of c + 1) in
      let there : at < length words = omega (arith, sized) in
      let new = (slice_index words at + word_of (delta r)) % 2 ^ 64 in
      let here : slice_index (set words at new) at ≡ word_of (sum_of_deltas (of_lane (lane_of c) (calls ++ r ∷ []))) =
      get_or-set_same words at new 0 there
      ∙ ap (λ (n : ℕ). (n + word_of (delta r)) % 2 ^ 64) (counted (lane_of c) (omega arith))
      ∙ sym (word_of-add (sum_of_deltas (of_lane (lane_of c) calls)) (delta r))
      ∙ ap word_of (sym (sum_of_deltas-push (of_lane (lane_of c) calls) r))
      ∙ ap (λ (l : List (RecordView K V F)). word_of (sum_of_deltas l)) (sym its) in
      ⊎_elim
      (λ same. subst
      (λ (l : ℕ). slice_index (set words at new) (8 * (l + 1)) ≡ word_of (sum_of_deltas (of_lane l (calls ++ r ∷ []))))
      (sym same) here)
      (λ other. get_or-set_other words at (8 * (lane + 1)) new 0 (λ e. other (omega (arith, e)))
      ∙ counted lane few
      ∙ ap (λ (l : List (RecordView K V F)). word_of (sum_of_deltas l)) (sym (others lane other)))
      (cases_eq lane (lane_of c))

  -- no word changes by a record whose delta is 0
  pub AreCounted-idle : word_of (delta r) ≡ 0 → AreCounted words (calls ++ r ∷ [])
  AreCounted-idle none lane few =
      ⊎_elim
      (λ same. subst
      (λ (l : ℕ). slice_index words (8 * (l + 1)) ≡ word_of (sum_of_deltas (of_lane l (calls ++ r ∷ []))))
      (sym same)
      (counted (lane_of c) (omega arith)
      ∙ sym (word_of_still (sum_of_deltas (of_lane (lane_of c) calls)) (delta r) none)
      ∙ ap word_of (sym (sum_of_deltas-push (of_lane (lane_of c) calls) r))
      ∙ ap (λ (l : List (RecordView K V F)). word_of (sum_of_deltas l)) (sym its)))
      (λ other. counted lane few
      ∙ ap (λ (l : List (RecordView K V F)). word_of (sum_of_deltas l)) (sym (others lane other)))
      (cases_eq lane (lane_of c))
