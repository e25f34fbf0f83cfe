-- What holds of the two words of a move and of the books of all its movers, between any two steps.
use Rattle.std.specs.Prelude.{◌≡◌, ℕ, ◌+◌, ◌*◌, ◌<◌, ◌≤◌, ◌==◌, Bool, true, false, if◌then◌else◌, List, [], ◌∷◌}
use Rattle.std.specs.Prelude.{length}
use Rattle.std.specs.Prelude.{slice_index, sum_by, All, Any}
use Rattle.std.specs.List.{range_with_len}
use Rattle.atomic_table.specs.Table.{State}
use Rattle.transfer.specs.Limits.{all_movers, spare_movers, stride_bins}
use Rattle.transfer.specs.declared.range.Range.{Range}
use Rattle.transfer.specs.declared.book.Book.{Book}
use Rattle.transfer.specs.Ranges.{ranges, width, HasBin}

-- The lists of all books, put together, are the whole list in some order: whatever its elements weigh, both weigh the
-- same.
abbrev pub IsSharedOut : {A : Type 0} → (Book → List A) → List Book → List A → Type 0
IsSharedOut {A} part books whole = (weight : A → ℕ) → sum_by (λ b. sum_by weight (part b)) books ≡ sum_by weight whole

-- the one list is a part of the other: whatever their elements weigh, it weighs no more
abbrev pub IsSubmultisetOf : {A : Type 0} → List A → List A → Type 0
IsSubmultisetOf {A} xs ys = (weight : A → ℕ) → sum_by weight xs ≤ sum_by weight ys

-- 1 if it is so
abbrev pub once : Bool → ℕ
once b = if b then 1 else 0

-- the numbers of the mover and of those that it can still deal
abbrev pub numbers : Book → List ℕ
numbers b = b.number ∷ b.spare

-- how many claims the movers made: one for each range, and one where they got none
abbrev pub claims : List Book → ℕ
claims books = sum_by (λ b. length b.claimed + once b.got_none) books

-- of a move of n bins with so many claims, one book by itself
pub record IsBook (n claimed : ℕ) (b : Book) : Type 0 where
  pub bins : b.bins ≡ n
  -- it finished what it claimed, nothing twice
  pub finished : IsSubmultisetOf b.finished b.claimed
  -- it got none where all bins are claimed
  pub got_none : b.got_none ≡ true → n ≤ stride_bins * claimed

-- the rule of a move of n bins
pub record IsMove (n claim_word finish_word : ℕ) (books : List Book) : Type 0 where
  -- the movers are numbered from 0 to 63
  pub numbered : IsSharedOut numbers books (range_with_len 0 all_movers)
  -- each claim moved the claim word by 16 bins
  pub moved : claim_word ≡ stride_bins * claims books
  -- as many ranges as there were claims are claimed, each by one mover, once
  pub claimed : IsSharedOut (λ b. b.claimed) books (ranges n (claims books))
  -- the finish word counts the bins of the finished ranges
  pub finished : finish_word ≡ sum_by (λ b. sum_by width b.finished) books
  -- one mover was told that its finish was the last if all n bins are finished, else none
  pub last : sum_by (λ b. once b.last) books ≡ once (finish_word == n)
  pub each : All (IsBook n (claims books)) books

-- the first word is the claim word, the second the finish word, and each view is a mover's book
abbrev pub Holds : ℕ → State (Unit {0}) Book → Type 0
Holds n s = (length s.words ≡ 2) × IsMove n (slice_index s.words 0) (slice_index s.words 1) s.views

-- a mover that did nothing yet
abbrev pub new_book : ℕ → ℕ → List ℕ → Book
new_book n number spare = record {
  bins = n;
  number = number;
  spare = spare;
  claimed = [];
  finished = [];
  got_none =
      false;
  last = false;
}

-- the opener's, with 63 movers to deal
abbrev pub first_book : ℕ → Book
first_book n = new_book n 0 (range_with_len 1 spare_movers)

abbrev pub next_number : List ℕ → ℕ
next_number [] = 0
next_number (k ∷ ks) = k

abbrev pub rest_of : List ℕ → List ℕ
rest_of [] = []
rest_of (k ∷ ks) = ks

-- the next spare mover
abbrev pub spare_book : Book → Book
spare_book b = new_book b.bins (next_number b.spare) []

-- the book that dealt it
abbrev pub without_next : Book → Book
without_next b = record b { spare = rest_of b.spare }

-- each bin of the move is in a range of one of the books
abbrev pub EachBin : (Book → List Range) → ℕ → List Book → Type 0
EachBin part n books = (bin : ℕ) → bin < n → Any (λ b. Any (HasBin bin) (part b)) books

abbrev pub AllClaimed : ℕ → List Book → Type 0
AllClaimed = EachBin (λ b. b.claimed)

abbrev pub AllFinished : ℕ → List Book → Type 0
AllFinished = EachBin (λ b. b.finished)
