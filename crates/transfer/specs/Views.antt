-- What callers see of a move and of its movers.
use Rattle.std.specs.Prelude.{◌≡◌, ℕ, ◌<◌, ◌≤◌, Bool, true, false, List, [], Contains}
pub use Rattle.atomic_table.specs.Seated.{TableId}
use Rattle.transfer.specs.Limits.{all_movers, most_bins, spare_movers}
use Rattle.transfer.specs.declared.range.Range.{Range}
use Rattle.transfer.specs.declared.range.Finish.{Finish}
use Rattle.transfer.specs.declared.range.Finish.TheVariants.{More, Last}
use Rattle.transfer.specs.declared.book.Book.{Book}
use Rattle.transfer.specs.Steps.{IsAmong}

-- a move: what no other move shares with it, and the number of its bins
pub record StridesView : Type 0 where
  pub identity : TableId
  pub bins : ℕ

abbrev pub move_of : TableId → ℕ → StridesView
move_of identity bins = record { identity = identity; bins = bins }

-- a mover: its move, its number there, the ranges that it claimed and those of them that it
-- finished, each in its order, and whether it got none and was told that it is last
pub record MoverView : Type 0 where
  pub strides : StridesView
  pub number : ℕ
  pub claimed : List Range
  pub finished : List Range
  pub got_none : Bool
  pub last : Bool

abbrev pub mover_of : TableId → Book → MoverView
mover_of identity b = record {
  strides = move_of identity b.bins;
  number = b.number;
  claimed = b.claimed;
  finished = b.finished;
  got_none = b.got_none;
  last = b.last;
}

abbrev pub book_of : MoverView → Book
book_of m = record {
  bins = m.strides.bins;
  number = m.number;
  spare = [];
  claimed = m.claimed;
  finished = m.finished;
  got_none = m.got_none;
  last = m.last;
}

-- a mover that did nothing yet
abbrev pub new_mover : StridesView → ℕ → MoverView
new_mover s number = record {
  strides = s;
  number = number;
  claimed = [];
  finished = [];
  got_none =
      false;
  last = false;
}

-- a spare mover of the move: it did nothing yet
pub record IsSpare (s : StridesView) (m : MoverView) : Type 0 where
  pub number : (0 < m.number) × (m.number < all_movers)
  pub new : m ≡ new_mover s m.number

-- what a move is made of: a table of two words that was told the number of bins, and 63 places
pub record IsMadeOf (s : StridesView) (key places : ℕ) : Type 0 where
  pub words : s.identity.words ≡ 2
  pub told : key ≡ s.bins
  pub few : s.bins ≤ most_bins
  pub spare : places ≡ spare_movers

-- the mover claimed the range and did not finish it
pub record IsUnfinished (m : MoverView) (r : Range) : Type 0 where
  pub claimed : Contains m.claimed r
  pub unfinished : ¬ Contains m.finished r

abbrev pub is_last : Finish → Bool
is_last More = false
is_last Last = true

-- what was so of the books of all movers once the mover had this book
abbrev pub Knows : MoverView → (List Book → Type 0) → Type 0
Knows m Such = IsAmong m.strides.bins (book_of m) Such
