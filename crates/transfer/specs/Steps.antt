-- What a claim and a finish tell their mover.
use Rattle.std.specs.Prelude.{◌≡◌, ℕ, ◌+◌, ◌%◌, ◌<◌, ◌≤◌, ◌==◌, true, nat_lt, if◌then◌else◌, List, [], ◌∷◌, ◌++◌}
use Rattle.std.specs.Prelude.{length, All, Contains}
use Rattle.transfer.specs.Limits.{stride_bins}
use Rattle.transfer.specs.declared.range.Range.{Range}
use Rattle.transfer.specs.declared.book.Book.{Book}
use Rattle.transfer.specs.Ranges.{range_from, width}
use Rattle.transfer.specs.Books.{IsMove, AllClaimed, AllFinished}

-- the book after a claim that found the claim word at a number
abbrev pub with_claim : ℕ → Book → Book
with_claim found b = if nat_lt found b.bins then record b { claimed = b.claimed ++ range_from b.bins found ∷ [] } else
    record b { got_none = true }

-- the book after a finish that found the finish word at a number
abbrev pub with_finish : Range → ℕ → Book → Book
with_finish r found b = record b { finished = b.finished ++ r ∷ []; last = found + width r == b.bins }

-- of a move of n bins: there are books of all movers, this one among them, that keep the rule and are such
abbrev pub IsAmong : ℕ → Book → (List Book → Type 0) → Type 0
IsAmong n b Such = (claim_word : ℕ) × (finish_word : ℕ) × (books : List Book) × IsMove n claim_word finish_word books
    × Contains books b × Such books

pub record Claims (b : Book) (found : ℕ) (after : Book) : Type 0 where
  pub book : after ≡ with_claim found b
  pub aligned : found % stride_bins ≡ 0
  pub few : found < b.bins → length b.claimed < b.bins
  pub claimed : All (λ r. r.hi ≤ found) b.claimed
  pub finished : All (λ r. r.hi ≤ found) b.finished
  pub none : b.bins ≤ found → IsAmong b.bins after (AllClaimed b.bins)

pub record Finishes (r : Range) (b : Book) (found : ℕ) (after : Book) : Type 0 where
  pub book : after ≡ with_finish r found b
  pub within : found + width r ≤ b.bins
  pub all : found + width r ≡ b.bins → IsAmong b.bins after (AllFinished b.bins)
