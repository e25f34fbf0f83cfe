-- How the steps of a ledger change what a seat knows, and what they tell.
use Rattle.std.specs.Prelude.{◌≡◌, ℕ, ◌<◌, ◌^◌, Bool, Option, Some, None, List, [], ◌∷◌, ◌++◌, map, slice_index, slice_set}
use Rattle.std.specs.Prelude.{All}
use mathlib.Core.Option.{some}
use lib.ListN.{get_elem?}
use Rattle.atomic_table.specs.Table.{State, Step, Me}
use Rattle.hashkeys.specs.Classes.{ClassView, low_half, high_half, is_of}
use Rattle.hashkeys.specs.declared.hashing.Salt.{Salt}
use Rattle.bin_history.specs.Entries.{lookup}
use Rattle.bin_history.specs.Part.{part_of_entries, part_of_records}
use Rattle.bin_history.specs.Plain.{IsLegal}
use Rattle.bin_history.specs.Records.{RecordView}
use Rattle.bin_history.specs.declared.call.Call.{Call}
use Rattle.count_ledger.specs.declared.books.Book.{Book}
use Rattle.count_ledger.specs.declared.books.Book.TheVariants.{Moment, Pass, Role}
use Rattle.count_ledger.specs.Terms.{TermsView, opening_of}
use Rattle.count_ledger.specs.Rule.{Among, Holds, IsSound, AreTogether}
use Rattle.count_ledger.specs.Words.{AreCounted}

-- the first of a list, alone, and the others
abbrev pub first_of : {A : Type 0} → List A → List A
first_of [] = []
first_of (x ∷ xs) = x ∷ []

abbrev pub rest_of : {A : Type 0} → List A → List A
rest_of [] = []
rest_of (x ∷ xs) = xs

-- the one view of a seat that lies by as a badge
abbrev pub only_view : {A : Type 0} → List (List A) → List A
only_view [] = []
only_view (v ∷ vs) = v

module _ {K V F : Type 0} where
  -- the book with one more record, posted behind these calls, which a pass has then seen
  abbrev pub with_record : RecordView K V F → List (RecordView K V F) → Book K V F → Book K V F
  with_record r calls (Pass c made seen) = Pass c (made ++ r ∷ []) (calls ++ r ∷ [])
  with_record r calls (Role salt class pairs kept) = Role salt class pairs (kept ++ r ∷ [])
  with_record r calls (Moment seen) = Moment seen

  abbrev pub books_with_record : RecordView K V F → List (RecordView K V F) → List (Book K V F) → List (Book K V F)
  books_with_record r calls books = map (with_record r calls) books

  -- a pass has seen these calls
  abbrev pub seeing : List (RecordView K V F) → Book K V F → Book K V F
  seeing calls (Pass c made seen) = Pass c made calls
  seeing calls (Role salt class pairs kept) = Role salt class pairs kept
  seeing calls (Moment seen) = Moment seen

  abbrev pub books_seeing : List (RecordView K V F) → List (Book K V F) → List (Book K V F)
  books_seeing calls books = map (seeing calls) books

  -- what the first book has seen, as the book of a moment
  abbrev pub seen_by : List (Book K V F) → List (Book K V F)
  seen_by (Pass c made seen ∷ _) = Moment seen ∷ []
  seen_by (Moment seen ∷ _) = Moment seen ∷ []
  seen_by _ = []

  module _ (code : K → ℕ) where
    -- the book of a half of a role's class
    abbrev pub half_book : Salt → ClassView → List (K × V) → List (RecordView K V F) → Book K V F
    half_book salt class pairs kept = Role salt class (part_of_entries (is_of code salt class) pairs)
        (part_of_records (is_of code salt class) kept)

    abbrev pub with_halves : List (Book K V F) → List (Book K V F)
    with_halves (Role salt class pairs kept ∷ books) = half_book salt (low_half class) pairs kept ∷ half_book salt
        (high_half class) pairs kept ∷ books
    with_halves books = books

    abbrev pub books_with_halves : List (RecordView K V F) → List (Book K V F) → List (Book K V F)
    books_with_halves calls books = with_halves books

    module _ (same_key : K → K → Bool) (after : Call K V F → Option V → Option V) where
      -- what the rule says of some books, among these words and after these calls
      pub record IsTold (t : TermsView K V) (words : List ℕ) (calls : List (RecordView K V F))
          (books : List (Book K V F)) : Type 0 where
        pub legal : IsLegal same_key after (lookup same_key (opening_of t)) calls
        pub clients : All (λ r. r.client < t.clients) calls
        pub counted : AreCounted words calls
        pub sound : Among (IsSound code t calls) (AreTogether code) books

      -- a word was found among some words, and the books are as the rule says
      abbrev pub IsRead : Option (TermsView K V) → ℕ → ℕ → List (RecordView K V F) → List (Book K V F) → Type 0
      IsRead None word found calls books = Unit {0}
      IsRead (Some t) word found calls books =
          (words : List ℕ) × (found ≡ slice_index words word) × IsTold t words calls books

      -- after some calls the seat's books change in this way, and the step tells what the rule said of them before
      abbrev pub Tells : Option (TermsView K V)
          → (List (RecordView K V F) → List (Book K V F) → List (Book K V F)) → Step (Unit {0})
          → Me (Unit {0}) (List (Book K V F)) → ℕ → Me (Unit {0}) (List (Book K V F)) → Type 0
      Tells terms change s m found m' = (calls : List (RecordView K V F)) × (m' ≡ (change calls m.0, m.1))
          × IsRead terms s.word found calls m.0

      -- whatever the table is, its words of 64 bits, the word may become f of what it was while the seat's books become
      -- others, by the calls so far
      abbrev pub Keeps : TermsView K V → ℕ → List (Book K V F) → ℕ → (ℕ → ℕ)
          → (List (RecordView K V F) → List (Book K V F) → List (Book K V F)) → Type 0
      Keeps t id books word f change = (s : State (Unit {0}) (List (Book K V F)))
          → (h : Holds code same_key after t s) → get_elem? s.views id ≡ some books
          → slice_index s.words word < 2 ^ 64
          → Holds code same_key after t record {
            words = slice_set s.words word (f (slice_index s.words word));
            homes = s.homes;
            views =
                slice_set s.views id (change h.calls books);
          }
