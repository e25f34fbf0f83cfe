-- What the rule of a move says of all its books, and of one of them.
use Rattle.std.proofs.Common.{◌≡◌, ℕ, ◌+◌, ◌-◌, ◌*◌, ◌<◌, ◌≤◌, Bool, true, false, List, length, ap, ◌∙◌, arith}
use Rattle.std.specs.Prelude.{sum_by, All, Any, Contains}
use Rattle.std.proofs.lemmas.List.Sums.{sum_by-cons, sum_by-le-sum_by}
use Rattle.std.proofs.lemmas.List.Elements.{All-weaker, All-contains}
use Rattle.std.proofs.lemmas.Bool.Decides.{nat_tests}
use mathlib.Core.Option.{some}
use lib.ListN.{get_elem?}
use Rattle.transfer.specs.declared.range.Range.{Range}
use Rattle.transfer.specs.declared.book.Book.{Book}
use Rattle.transfer.specs.Ranges.{ranges, width, HasBin}
use Rattle.transfer.specs.Books.{IsMove, IsBook, IsSharedOut, AllClaimed, AllFinished, claims, numbers, once}
use Rattle.transfer.proofs.Weights.{weighs_at_most, sum-add, some_weighs, none_weighs, sum-le, length-weight}
use Rattle.transfer.proofs.Weights.{contains_at}
use Rattle.transfer.proofs.Tiles.{width-ranges, count-ranges, past-ranges, thin-ranges, cover, cover-le-width}
use Rattle.transfer.proofs.Tiles.{cover-ranges}

once-le : (t : Bool) → once t ≤ 1
once-le true = omega arith
once-le false = omega arith

has-bin : (bin : ℕ) (r : Range) → 0 < cover bin r → HasBin bin r
has-bin bin r h = (grind (arith, nat_tests), grind (arith, nat_tests))

-- where the books' lists weigh something for a bin, one of them has a range with it
some-has-bin : (part : Book → List Range) (bin : ℕ) (books : List Book) →
    0 < sum_by (λ b. sum_by (cover bin) (part b)) books
    → Any (λ b. Any (HasBin bin) (part b)) books
some-has-bin part bin books h =
    let b = some_weighs (λ b. sum_by (cover bin) (part b)) books h in
    let r = some_weighs (cover bin) (part b.1) b.4 in
    (b.0, b.1, b.2, b.3, (r.0, r.1, r.2, r.3, has-bin bin r.1 r.4))

-- what is finished weighs no more than what is claimed
module _ (n : ℕ) (books : List Book) (claimed : IsSharedOut (λ b. b.claimed) books (ranges n (claims books)))
    (each : All (IsBook n (claims books)) books) where
  finished-le : (f : Range → ℕ) → sum_by (λ b. sum_by f b.finished) books ≤ sum_by f (ranges n (claims books))
  finished-le f =
      let below = sum-le (λ b. sum_by f b.finished) (λ b. sum_by f b.claimed) books
      (All-weaker (IsBook n (claims books)) (λ b. sum_by f b.finished ≤ sum_by f b.claimed)
      (λ b k. k.finished f) books each) in
      omega (arith, below, claimed f)

  pub finished-within : sum_by (λ b. sum_by width b.finished) books ≤ n
  finished-within = omega (arith, finished-le width, width-ranges n (claims books))

module _ (n cw fw : ℕ) (books : List Book) (m : IsMove n cw fw books) where
  -- all bins are claimed where the claim word is past them
  pub all-claimed : n ≤ cw → AllClaimed n books
  all-claimed past = λ bin h.
      some-has-bin (λ b. b.claimed) bin books
      (omega (arith, m.claimed (cover bin), cover-ranges bin n (claims books) h (omega (arith, m.moved))))

  pub finish-word-le : fw ≤ n
  finish-word-le = omega (arith, m.finished, finished-within n books m.claimed m.each)

  -- all bins are finished where the finish word counts all of them
  pub all-finished : fw ≡ n → AllFinished n books
  all-finished e = λ bin h.
      let rest : Range → ℕ = λ r. width r - cover bin r in
      let cut : (r : Range) → width r ≡ rest r + cover bin r = λ r. omega (arith, cover-le-width bin r) in
      let c = claims books in
      let whole : sum_by width (ranges n c) ≡ sum_by rest (ranges n c) + sum_by (cover bin) (ranges n c) =
      ap (λ (f : Range → ℕ). sum_by f (ranges n c)) (λ i r. cut r i) ∙ sum-add rest (cover bin) (ranges n c) in
      let done : sum_by (λ b. sum_by width b.finished) books ≡ sum_by (λ b. sum_by rest b.finished) books + sum_by
      (λ b. sum_by (cover bin) b.finished) books =
      ap (λ (f : Book → ℕ). sum_by f books)
      (λ i b. (ap (λ (f : Range → ℕ). sum_by f b.finished) (λ j r. cut r j) ∙ sum-add rest (cover bin) b.finished)
      i)
      ∙ sum-add (λ b. sum_by rest b.finished) (λ b. sum_by (cover bin) b.finished) books in
      some-has-bin (λ b. b.finished) bin books
      (let w = width-ranges n c in let most = finished-within n books m.claimed m.each in
      let most' = finished-le n books m.claimed m.each width in
      let others = finished-le n books m.claimed m.each rest in let word = m.finished in
      let there : bin < 16 * c = omega arith in
      let some = cover-ranges bin n c h there in omega arith)

  -- the claim word stays below 16 n + 1,024
  pub claims-le : claims books ≤ n + 64
  claims-le =
      let each : (b : Book) → length b.claimed + once b.got_none ≤ sum_by (λ _. 1) b.claimed + sum_by
      (λ _. 1) (numbers b) =
      λ b. omega (arith, length-weight b.claimed, once-le b.got_none, sum_by-cons (λ _. 1) b.number b.spare) in
      let all = sum_by-le-sum_by (λ b. length b.claimed + once b.got_none)
      (λ b. sum_by (λ _. 1) b.claimed + sum_by (λ _. 1) (numbers b)) books each in
      let parts = sum-add (λ b. sum_by (λ _. 1) b.claimed) (λ b. sum_by (λ _. 1) (numbers b)) books in
      omega (arith, all, parts, m.claimed (λ _. 1), (count-ranges n (claims books)).1, m.numbered (λ _. 1))

  module _ (id : ℕ) (b : Book) (at : get_elem? books id ≡ some b) where
    pub is-book : IsBook n (claims books) b
    is-book = All-contains (IsBook n (claims books)) books b m.each (contains_at books id b at)

    -- what its claimed ranges weigh is within what the first ranges weigh
    claimed-le : (f : Range → ℕ) → sum_by f b.claimed ≤ sum_by f (ranges n (claims books))
    claimed-le f = omega (arith, weighs_at_most (λ b. sum_by f b.claimed) books id b at, m.claimed f)

    -- its ranges end where the claim word stands, or before
    pub claimed-past : All (λ r. r.hi ≤ cw) b.claimed
    claimed-past =
        let none : sum_by (λ r. r.hi - 16 * claims books) b.claimed ≡ 0 =
        omega (arith, claimed-le (λ r. r.hi - 16 * claims books), past-ranges n (claims books)) in
        All-weaker (λ r. r.hi - 16 * claims books ≡ 0) (λ r. r.hi ≤ cw) (λ r e. omega (arith, e, m.moved)) b.claimed
        (none_weighs (λ r. r.hi - 16 * claims books) b.claimed none)

    pub finished-past : All (λ r. r.hi ≤ cw) b.finished
    finished-past =
        let none : sum_by (λ r. r.hi - 16 * claims books) b.finished ≡ 0 =
        omega (
          arith,
          is-book.finished (λ r. r.hi - 16 * claims books),
          claimed-le (λ r. r.hi - 16 * claims books),
          past-ranges n (claims books),
        ) in
        All-weaker (λ r. r.hi - 16 * claims books ≡ 0) (λ r. r.hi ≤ cw) (λ r e. omega (arith, e, m.moved)) b.finished
        (none_weighs (λ r. r.hi - 16 * claims books) b.finished none)

    -- and none of them is empty
    pub claimed-wide : (r : Range) → Contains b.claimed r → 0 < width r
    claimed-wide r there =
        let none : sum_by (λ r. 1 - width r) b.claimed ≡ 0 =
        omega (arith, claimed-le (λ r. 1 - width r), thin-ranges n (claims books)) in
        omega (
          arith,
          All-contains (λ r. 1 - width r ≡ 0) b.claimed r
              (none_weighs (λ r. 1 - width r) b.claimed none) there,
        )

    -- it has no more ranges than there were claims
    pub claimed-few : length b.claimed ≤ claims books
    claimed-few = omega (arith, length-weight b.claimed, claimed-le (λ _. 1), (count-ranges n (claims books)).0)
