-- Each step of a mover keeps the rule.
use Rattle.std.proofs.Common.{◌≡◌, ℕ, suc, ◌+◌, ◌-◌, ◌*◌, ◌%◌, ◌^◌, ◌<◌, ◌≤◌, true, false, ltb, eqb, List, [], ◌∷◌}
use Rattle.std.proofs.Common.{◌++◌, length, set, refl, sym, ap, subst}
use Rattle.std.proofs.Common.{zero-add, ◌∙◌, arith, ⊎_elim}
use Rattle.std.specs.Prelude.{sum_by, slice_index, All, Contains}
use Rattle.std.specs.List.{range_with_len}
use Rattle.std.proofs.lemmas.List.{length-set, get_or-set_same, get_or-set_other, length_push}
use Rattle.std.proofs.lemmas.List.Sums.{sum_by-cons, sum_by_push}
use Rattle.std.proofs.lemmas.List.Elements.{All-weaker, All-push, All-set, All-nil, All-cons}
use Rattle.std.proofs.lemmas.Bool.{lt-ltb, le-ltb, cond-true, cond-false, cases_lt, ne_eqb, false≢true}
use mathlib.Core.Option.{some}
use lib.ListN.{get_elem?}
use Rattle.atomic_table.specs.Table.{Me, keeps, Allows, Splits}
use Rattle.transfer.specs.declared.range.Range.{Range}
use Rattle.transfer.specs.declared.book.Book.{Book}
use Rattle.transfer.specs.Ranges.{range_from, ranges, width}
use Rattle.transfer.specs.Books.{IsMove, IsBook, IsSubmultisetOf, Holds, AllClaimed, AllFinished, claims, numbers, once}
use Rattle.transfer.specs.Books.{first_book, spare_book, without_next}
use Rattle.transfer.specs.Books.{rest_of, next_number}
use Rattle.transfer.specs.Steps.{with_claim, with_finish, IsAmong, Claims, Finishes}
use Rattle.transfer.specs.Views.{TableId, IsSpare, move_of, mover_of, new_mover}
use Rattle.transfer.proofs.Weights.{sum-set, weighs_at_most, part-push, contains_set}
use Rattle.transfer.proofs.Tiles.{weigh-more, weigh-all}
use Rattle.transfer.proofs.Known.{all-claimed, all-finished, finish-word-le, finished-within, claims-le, is-book}
use Rattle.transfer.proofs.Known.{claimed-past, finished-past, claimed-wide}
use Rattle.transfer.proofs.Known.{claimed-few}

module _ (n cw fw : ℕ) (books : List Book) (m : IsMove n cw fw books) (id : ℕ) (b : Book)
    (at : get_elem? books id ≡ some b) where
  -- what the books weigh once this one is w
  changed : (w : Book) (f : Book → ℕ) → sum_by f (set books id w) + f b ≡ sum_by f books + f w
  changed w f = sum-set f books id b w at

  -- the other books, where more is claimed
  others : (d : ℕ) → claims books ≤ d → All (IsBook n d) books
  others d le = All-weaker (IsBook n (claims books)) (IsBook n d)
      (λ x k. record { bins = k.bins; finished = k.finished; got_none = λ e. omega (arith, k.got_none e, le) }) books
      m.each

  weigh-at : (f : Range → ℕ) (c d : ℕ) → c ≡ d → sum_by f (ranges n c) ≡ sum_by f (ranges n d)
  weigh-at f c d e = ap (λ k. sum_by f (ranges n k)) e

  -- a claim of a further range
  claims-range : cw < n →
      IsMove n (cw + 16) fw (set books id (record b { claimed = b.claimed ++ range_from b.bins cw ∷ [] }))
  claims-range left =
      let r : Range = range_from b.bins cw in
      let w : Book = record b { claimed = b.claimed ++ r ∷ [] } in
      let c : ℕ = claims books in
      let own = is-book n cw fw books m id b at in
      let one : claims (set books id w) ≡ suc c =
      omega (arith, changed w (λ b. length b.claimed + once b.got_none), length_push b.claimed r) in
      let here : r ≡ range_from n (16 * c) = (λ i. range_from (own.bins i) (m.moved i)) in
      record {
        numbered = λ f. omega (arith, changed w (λ b. sum_by f (numbers b)), m.numbered f);
        moved = omega (arith, one, m.moved);
        claimed = λ f.
            (let e : f r ≡ f (range_from n (16 * c)) = ap f here in
            let all = weigh-more f n c (omega (arith, left, m.moved)) in
            let to = weigh-at f (claims (set books id w)) (suc c) one in
            omega (arith, changed w (λ b. sum_by f b.claimed), sum_by_push f b.claimed r, m.claimed f));
        finished = omega (arith, changed w (λ b. sum_by width b.finished), m.finished);
        last = (let e = changed w (λ b. once b.last) in let l = m.last in omega (arith, e, l));
        each = All-set (IsBook n (claims (set books id w))) books id w
            record {
              bins = own.bins;
              finished = λ f. omega (arith, own.finished f, sum_by_push f b.claimed r);
              got_none = λ e. omega (arith, own.got_none e, one);
            }
            (others (claims (set books id w)) (omega (arith, one)));
      }

  -- a claim past all ranges
  claims-none : n ≤ cw → b.got_none ≡ false → IsMove n (cw + 16) fw (set books id (record b { got_none = true }))
  claims-none past had =
      let w : Book = record b { got_none = true } in
      let c : ℕ = claims books in
      let own = is-book n cw fw books m id b at in
      let zero-once : once b.got_none ≡ 0 = ap once had in
      let one : claims (set books id w) ≡ suc c =
      omega (arith, changed w (λ b. length b.claimed + once b.got_none), zero-once) in
      record {
        numbered = λ f. omega (arith, changed w (λ b. sum_by f (numbers b)), m.numbered f);
        moved = omega (arith, one, m.moved);
        claimed = λ f.
            (let all = weigh-all f n c (omega (arith, past, m.moved)) in
            let to = weigh-at f (claims (set books id w)) (suc c) one in
            omega (arith, changed w (λ b. sum_by f b.claimed), m.claimed f));
        finished = omega (arith, changed w (λ b. sum_by width b.finished), m.finished);
        last = (let e = changed w (λ b. once b.last) in let l = m.last in omega (arith, e, l));
        each = All-set (IsBook n (claims (set books id w))) books id w
            record { bins = own.bins; finished = own.finished; got_none = λ e. omega (arith, past, one, m.moved) }
            (others (claims (set books id w)) (omega (arith, one)));
      }

  claims-on : b.got_none ≡ false → IsMove n (cw + 16) fw (set books id (with_claim cw b))
  claims-on had =
      let own = is-book n cw fw books m id b at in
      ⊎_elim
      (λ left. subst (λ (w : Book). IsMove n (cw + 16) fw (set books id w))
      (sym (cond-true (ltb cw b.bins) (record b { claimed = b.claimed ++ range_from b.bins cw ∷ [] })
      (record b { got_none = true })
      (lt-ltb cw b.bins (omega (arith, left, own.bins))))) (claims-range left))
      (λ past. subst (λ (w : Book). IsMove n (cw + 16) fw (set books id w))
      (sym (cond-false (ltb cw b.bins) (record b { claimed = b.claimed ++ range_from b.bins cw ∷ [] })
      (record b { got_none = true })
      (le-ltb cw b.bins (omega (arith, past, own.bins))))) (claims-none past had))
      (cases_lt cw n)

  -- a finish of a range that the mover claimed and has not finished
  finishes-on : (r : Range) → Contains b.claimed r → ¬ Contains b.finished r →
      IsMove n cw (fw + width r) (set books id (with_finish r fw b))
  finishes-on r there none =
      let w : Book = with_finish r fw b in
      let c : ℕ = claims books in
      let own = is-book n cw fw books m id b at in
      let same : claims (set books id w) ≡ c = omega (arith, changed w (λ b. length b.claimed + once b.got_none)) in
      let part : IsSubmultisetOf (b.finished ++ r ∷ []) b.claimed =
      part-push b.finished b.claimed r own.finished there none in
      let next : (f : Range → ℕ) → sum_by f w.finished ≡ sum_by f b.finished + f r = λ f. sum_by_push f b.finished r in
      let word : fw + width r ≡ sum_by (λ b. sum_by width b.finished) (set books id w) =
      omega (arith, changed w (λ b. sum_by width b.finished), m.finished, next width) in
      let books' = set books id w in
      let each : All (IsBook n (claims books')) books' =
      All-set (IsBook n (claims books')) books id w
      record { bins = own.bins; finished = part; got_none = λ e. omega (arith, own.got_none e, same) }
      (others (claims books') (omega (arith, same))) in
      let claimed : (f : Range → ℕ) → sum_by (λ b. sum_by f b.claimed) books' ≡ sum_by f (ranges n (claims books')) =
      λ f. (let to = weigh-at f (claims books') c same in
      omega (arith, changed w (λ b. sum_by f b.claimed), m.claimed f)) in
      let within : fw + width r ≤ n = omega (arith, word, finished-within n books' claimed each) in
      let wide : 0 < width r = claimed-wide n cw fw books m id b at r there in
      record {
        numbered = λ f. omega (arith, changed w (λ b. sum_by f (numbers b)), m.numbered f);
        moved = omega (arith, same, m.moved);
        claimed = claimed;
        finished = word;
        last =
            (let before : once (eqb fw n) ≡ 0 = ap once (ne_eqb fw n (λ e. absurd (omega (arith, e, within, wide)))) in
            let l = m.last in
            let e = changed w (λ b. once b.last) in
            let had = weighs_at_most (λ b. once b.last) books id b at in
            let now : once w.last ≡ once (eqb (fw + width r) n) = ap (λ k. once (eqb (fw + width r) k)) own.bins in
            omega (arith, e, had, l, before, now));
        each = each;
      }

  -- a spare mover is dealt
  deals-on : (k : ℕ) (ks : List ℕ) → b.spare ≡ k ∷ ks →
      IsMove n cw fw (set books id (without_next b) ++ spare_book b ∷ [])
  deals-on k ks has =
      let c : ℕ = claims books in
      let own = is-book n cw fw books m id b at in
      let all = set books id (without_next b) ++ spare_book b ∷ [] in
      let sums : (f : Book → ℕ) → sum_by f all + f b ≡ sum_by f books + f (without_next b) + f (spare_book b) =
      λ f. omega (arith, changed (without_next b) f, sum_by_push f (set books id (without_next b)) (spare_book b)) in
      let same : claims all ≡ c = omega (arith, sums (λ b. length b.claimed + once b.got_none)) in
      record {
        numbered = λ f.
            (let own : sum_by f (numbers b) ≡ f b.number + (f k + sum_by f ks) =
            sum_by-cons f b.number b.spare ∙ ap (λ (w : ℕ). f b.number + w) (ap (sum_by f) has ∙ sum_by-cons f k ks) in
            let left : sum_by f (numbers (without_next b)) ≡ f b.number + sum_by f ks =
            sum_by-cons f b.number (without_next b).spare
            ∙ ap (λ (l : List ℕ). f b.number + sum_by f (rest_of l)) has in
            let right : sum_by f (numbers (spare_book b)) ≡ f k =
            ap (λ (l : List ℕ). sum_by f (next_number l ∷ [])) has ∙ zero-add (f k) in
            omega (arith, sums (λ b. sum_by f (numbers b)), own, left, right, m.numbered f));
        moved = omega (arith, same, m.moved);
        claimed = λ f.
            (let to = weigh-at f (claims all) c same in
            omega (arith, sums (λ b. sum_by f b.claimed), m.claimed f));
        finished = omega (arith, sums (λ b. sum_by width b.finished), m.finished);
        last = (let e = sums (λ b. once b.last) in let l = m.last in omega (arith, e, l));
        each =
            (let rest = others (claims all) (omega (arith, same)) in
            let mine : IsBook n (claims all) (without_next b) =
            record { bins = own.bins; finished = own.finished; got_none = λ e. omega (arith, own.got_none e, same) } in
            All-push (IsBook n (claims all)) (set books id (without_next b)) (spare_book b)
            (All-set (IsBook n (claims all)) books id (without_next b) mine rest)
            record { bins = own.bins; finished = λ f. omega arith; got_none = λ e. absurd (false≢true e) });
      }

module _ (n : ℕ) (few : n ≤ 67108864) where
  pub holds-claims : (slots id : ℕ) (me : Me (Unit {0}) Book) → me.0.got_none ≡ false
      → Allows (Holds n) slots id me 0 (λ k. (k + 16) % 2 ^ 64) (λ k m. Claims me.0 k m.0)
  holds-claims slots id me had s h len at fits =
      let b : Book = me.0 in
      let cw : ℕ = slice_index s.words 0 in
      let fw : ℕ = slice_index s.words 1 in
      let w : Book = with_claim cw b in
      let m = h.1 in
      let own = is-book n cw fw s.views m id b at in
      let next : (cw + 16) % 2 ^ 64 ≡ cw + 16 = omega (arith, claims-le n cw fw s.views m, m.moved) in
      let kept : IsMove n (cw + 16) fw (set s.views id w) = claims-on n cw fw s.views m id b at had in (
        w,
        keeps,
        tt,
        (
          length-set s.words 0 ((cw + 16) % 2 ^ 64) ∙ h.0,
          subst (λ (x : ℕ). IsMove n x (slice_index (set s.words 0 ((cw + 16) % 2 ^ 64)) 1) (set s.views id w))
              (sym (get_or-set_same s.words 0 ((cw + 16) % 2 ^ 64) 0 (omega (arith, h.0)) ∙ next))
              (subst (λ (x : ℕ). IsMove n (cw + 16) x (set s.views id w))
              (sym (get_or-set_other s.words 0 1 ((cw + 16) % 2 ^ 64) 0 (λ e. omega (arith, e)))) kept),
        ),
        record {
          book = refl;
          aligned = omega (arith, m.moved);
          few = λ more. omega (arith, more, m.moved, own.bins, claimed-few n cw fw s.views m id b at);
          claimed = claimed-past n cw fw s.views m id b at;
          finished = finished-past n cw fw s.views m id b at;
          none = λ past.
              subst (λ (k : ℕ). IsAmong k w (AllClaimed k)) (sym own.bins) (
                cw + 16,
                fw,
                set s.views id w,
                kept,
                contains_set s.views id b w at,
                all-claimed n (cw + 16) fw (set s.views id w) kept (omega (arith, past, own.bins)),
              );
        },
      )

  pub holds-finishes : (slots id : ℕ) (me : Me (Unit {0}) Book) (r : Range) → Contains me.0.claimed r →
      ¬ Contains me.0.finished r
      → Allows (Holds n) slots id me 1 (λ k. (k + width r) % 2 ^ 64) (λ k m. Finishes r me.0 k m.0)
  holds-finishes slots id me r there none s h len at fits =
      let b : Book = me.0 in
      let cw : ℕ = slice_index s.words 0 in
      let fw : ℕ = slice_index s.words 1 in
      let w : Book = with_finish r fw b in
      let m = h.1 in
      let own = is-book n cw fw s.views m id b at in
      let kept : IsMove n cw (fw + width r) (set s.views id w) = finishes-on n cw fw s.views m id b at r there none in
      let within : fw + width r ≤ n = finish-word-le n cw (fw + width r) (set s.views id w) kept in
      let next : (fw + width r) % 2 ^ 64 ≡ fw + width r = omega arith in (
        w,
        keeps,
        tt,
        (
          length-set s.words 1 ((fw + width r) % 2 ^ 64) ∙ h.0,
          subst (λ (x : ℕ). IsMove n (slice_index (set s.words 1 ((fw + width r) % 2 ^ 64)) 0) x (set s.views id w))
              (sym (get_or-set_same s.words 1 ((fw + width r) % 2 ^ 64) 0 (omega (arith, h.0)) ∙ next))
              (subst (λ (x : ℕ). IsMove n x (fw + width r) (set s.views id w))
              (sym (get_or-set_other s.words 1 0 ((fw + width r) % 2 ^ 64) 0 (λ e. omega (arith, e)))) kept),
        ),
        record {
          book = refl;
          within = omega (arith, within, own.bins);
          all = λ whole.
              subst (λ (k : ℕ). IsAmong k w (AllFinished k)) (sym own.bins) (
                cw,
                fw + width r,
                set s.views id w,
                kept,
                contains_set s.views id b w at,
                all-finished n cw (fw + width r) (set s.views id w) kept (omega (arith, whole, own.bins)),
              );
        },
      )

pub holds-deals : (n id : ℕ) (b : Book) (k : ℕ) (ks : List ℕ) → b.spare ≡ k ∷ ks →
    Splits (Holds n) id b (without_next b) (spare_book b)
holds-deals n id b k ks has s h at =
    (h.0, deals-on n (slice_index s.words 0) (slice_index s.words 1) s.views h.1 id b at k ks has)

pub holds-first : (n : ℕ) → 0 < n → IsMove n 0 0 (first_book n ∷ [])
holds-first n pos = record {
  numbered = λ f. zero-add (sum_by f (range_with_len 0 64));
  moved = refl;
  claimed = λ f. refl;
  finished = refl;
  last = sym (ap once (ne_eqb 0 n (λ e. omega (arith, e))));
  each = All-cons (IsBook n 0) (first_book n) [] record {
    bins = refl;
    finished = λ f. omega arith;
    got_none =
        λ e. absurd (false≢true e);
  } (All-nil (IsBook n 0));
}

-- the numbers that are left to deal, and the next of them
pub next-spare : (k : ℕ) → k < 64 → range_with_len k (64 - k) ≡ k ∷ range_with_len (k + 1) (64 - (k + 1))
next-spare k h = let e : 64 - k ≡ suc (64 - (k + 1)) = omega arith in ap (range_with_len k) e

-- what a caller sees of a mover that was dealt
pub spare_book-spare : (t u : TableId) (n k : ℕ) (ks : List ℕ) (b w : Book) → u ≡ t → b.bins ≡ n → b.spare ≡ k ∷ ks →
    0 < k → k < 64 → w ≡ spare_book b
    → IsSpare (move_of t n) (mover_of u w)
spare_book-spare t u n k ks b w here size has pos few is = record {
  number = (let e : w.number ≡ k = ap (λ (x : Book). x.number) is ∙ ap next_number has in (omega arith, omega arith));
  new = (λ i. mover_of (here i) (is i))
      ∙ (λ i. new_mover (move_of t (size i)) (sym (ap (λ (x : Book). x.number) is) i));
}
