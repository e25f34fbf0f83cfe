-- The rule of a ledger's table: there is one order of all calls; the books agree, and each lane's word is the sum of
-- the deltas of its clients' calls.
use Rattle.std.specs.Prelude.{◌≡◌, ◌≢◌, ℕ, ◌<◌, ◌≤◌, Bool, Option, List, [], ◌∷◌, ◌++◌, length, map}
use Rattle.std.specs.Prelude.{All}
use Rattle.std.specs.List.{AllByRecursion, range_with_len}
use mathlib.Core.Option.{some}
use lib.ListN.{get_elem?}
use Rattle.atomic_table.specs.Table.{State}
use Rattle.hashkeys.specs.Classes.{AreApart, is_of}
use Rattle.bin_history.specs.Clients.{by_client}
use Rattle.bin_history.specs.Entries.{lookup}
use Rattle.bin_history.specs.Part.{part_of_entries, part_of_records}
use Rattle.bin_history.specs.Plain.{IsLegal}
use Rattle.bin_history.specs.declared.call.Call.{Call}
use Rattle.bin_history.specs.Records.{RecordView}
use Rattle.count_ledger.specs.declared.books.Book.{Book}
use Rattle.count_ledger.specs.declared.books.Book.TheVariants.{Moment, Pass, Role}
use Rattle.bin_history.specs.declared.form.Form.{Form}
use Rattle.count_ledger.specs.Limits.{all_words, most_calls, most_clients}
use Rattle.count_ledger.specs.Terms.{TermsView, opening_of}
use Rattle.count_ledger.specs.Views.{LedgerId, LedgerView}
use Rattle.count_ledger.specs.Words.{AreCounted}
use Rattle.count_ledger.specs.Books.{AreNumbered}
use Rattle.count_ledger.specs.Fronts.{BeginsWith}
use Rattle.count_ledger.specs.Opening.{class_at, base_at}

module _ {A : Type 0} (P : A → Type 0) (R : A → A → Type 0) where
  -- P holds of each, and R of each and those after it
  abbrev pub Among : List A → Type 0
  Among [] = Unit {0}
  Among (x ∷ xs) = P x × AllByRecursion (R x) xs × Among xs

-- R holds of each of the one list and each of the other
abbrev pub Across : {A : Type 0} → (A → A → Type 0) → List A → List A → Type 0
Across R xs ys = AllByRecursion (λ x. AllByRecursion (R x) ys) xs

-- the same of the books of all seats: P holds of each book, and R of each two, of one seat or of two
pub record AmongSeats {A : Type 0} (P : A → Type 0) (R : A → A → Type 0) (seats : List (List A)) : Type 0 where
  pub within : (i : ℕ) (v : List A) → get_elem? seats i ≡ some v → Among P R v
  pub across : (i j : ℕ) (v w : List A) → i ≢ j → get_elem? seats i ≡ some v → get_elem? seats j ≡ some w → Across R v w

module _ {K V F : Type 0} where
  -- of a pass's book: it made those by its client, and has seen a front
  pub record IsSoundPass (t : TermsView K V) (calls : List (RecordView K V F)) (c : ℕ) (made
      seen : List (RecordView K V F)) : Type 0 where
    pub client : c < t.clients
    pub numbered : AreNumbered c 0 made
    pub at_most : length made ≤ most_calls t.form t.clients
    pub made_is : by_client c calls ≡ made
    pub own : by_client c seen ≡ made
    pub front : BeginsWith calls seen

  module _ (code : K → ℕ) where
    -- of one book, where all calls were made in this order: a
    -- pass made those by its client, a role kept those on keys of its class, and pass and moment have seen a front
    abbrev pub IsSound : TermsView K V → List (RecordView K V F) → Book K V F → Type 0
    IsSound t calls (Pass c made seen) = IsSoundPass t calls c made seen
    IsSound t calls (Moment seen) = BeginsWith calls seen
    IsSound t calls (Role salt class pairs kept) =
        (salt ≡ t.salt) × (pairs ≡ part_of_entries (is_of code salt class) (opening_of t))
        × All (λ r. r.client < t.clients) kept × (part_of_records (is_of code salt class) calls ≡ kept)

    -- of two books: two passes have two clients, and two roles have no hash in common
    abbrev pub AreTogether : Book K V F → Book K V F → Type 0
    AreTogether (Pass c made seen) (Pass d _ _) = c ≢ d
    AreTogether (Role _ class _ _) (Role _ other _ _) = AreApart class other
    AreTogether _ _ = Unit {0}

    module _ (same_key : K → K → Bool) (after : Call K V F → Option V → Option V) where
      -- the rule, over the words and what each seat knows: the calls in the one order in which they were posted, legal
      -- for a map of one thread on the opening map
      pub record Holds (t : TermsView K V) (s : State (Unit {0}) (List (Book K V F))) : Type 0 where
        pub sized : length s.words ≡ all_words
        pub calls : List (RecordView K V F)
        pub legal : IsLegal same_key after (lookup same_key (opening_of t)) calls
        pub clients : All (λ r. r.client < t.clients) calls
        pub counted : AreCounted s.words calls
        pub books : AmongSeats (IsSound t calls) AreTogether s.views

  -- the books of a new ledger
  abbrev pub new_pass_book : ℕ → Book K V F
  new_pass_book client = Pass client [] []

  abbrev pub new_role_book : TermsView K V → ℕ → Book K V F
  new_role_book t i = Role t.salt (class_at t.bases i) (base_at t.bases i) []

  abbrev pub first_books : TermsView K V → List (Book K V F)
  first_books t = map (new_role_book t) (range_with_len 0 (length t.bases))
      ++ map new_pass_book (range_with_len 0 t.clients)

-- a ledger, by its table's identity and what it was told
abbrev pub ledger_of : {K V : Type 0} → LedgerId → TermsView K V → LedgerView K V
ledger_of id t = record { id = id; form = t.form; salt = t.salt; clients = t.clients; opening = opening_of t }

-- what each ledger keeps
pub record IsLedger {K V : Type 0} (id : LedgerId) (t : TermsView K V) (form : Form) (clients most : ℕ) : Type 0 where
  pub form_is : t.form ≡ form
  pub words : id.words ≡ all_words
  pub clients_are : t.clients ≡ clients
  pub some : 0 < clients
  pub at_most : clients ≤ most_clients form
  pub most_is : most ≡ most_calls form clients
