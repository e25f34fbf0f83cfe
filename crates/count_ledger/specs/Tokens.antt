-- What passes and roles keep in their seats.
use Rattle.std.specs.Prelude.{◌≡◌, ℕ, ◌-◌, ◌/◌, ◌<◌, ◌≤◌, Option, Some, None, List, [], ◌∷◌, length, map, sum_by, All}
use Rattle.std.specs.List.{range_with_len}
use Rattle.atomic_table.specs.Table.{Me}
use Rattle.hashkeys.specs.Classes.{ClassView, IsClass}
use Rattle.hashkeys.specs.Limits.{most_bins}
use Rattle.hashkeys.specs.declared.hashing.Salt.{Salt}
use Rattle.bin_history.specs.Clients.{by_client}
use Rattle.bin_history.specs.Deltas.{sum_of_deltas}
use Rattle.bin_history.specs.Records.{RecordView}
use Rattle.count_ledger.specs.Limits.{most_lean_calls, most_lean_clients}
use Rattle.count_ledger.specs.Views.{MomentView, PassView, RoleView}
use Rattle.count_ledger.specs.declared.books.Book.{Book}
use Rattle.count_ledger.specs.declared.books.Book.TheVariants.{Moment, Pass, Role}
use Rattle.count_ledger.specs.Rule.{new_pass_book}
use Rattle.count_ledger.specs.Words.{word_of}

module _ {K V F : Type 0} where
  -- what the first book says was made
  abbrev pub made_of_pass : List (Book K V F) → List (RecordView K V F)
  made_of_pass (Pass c made seen ∷ _) = made
  made_of_pass _ = []

  -- and what it says was seen
  abbrev pub seen_of_pass : List (Book K V F) → List (RecordView K V F)
  seen_of_pass (Pass c made seen ∷ _) = seen
  seen_of_pass _ = []

  -- what the one book of a moment says was seen
  abbrev pub seen_of_moment : List (List (Book K V F)) → List (RecordView K V F)
  seen_of_moment ((Moment seen ∷ _) ∷ _) = seen
  seen_of_moment _ = []

  -- what the one book of a role says
  abbrev pub salt_of_role : List (List (Book K V F)) → Salt
  salt_of_role ((Role salt class opening kept ∷ _) ∷ _) = salt
  salt_of_role _ = record { 0 = 0 }

  abbrev pub opening_of_role : List (List (Book K V F)) → List (K × V)
  opening_of_role ((Role salt class opening kept ∷ _) ∷ _) = opening
  opening_of_role _ = []

  abbrev pub kept_of_role : List (List (Book K V F)) → List (RecordView K V F)
  kept_of_role ((Role salt class opening kept ∷ _) ∷ _) = kept
  kept_of_role _ = []

  -- a seat with the book of a client, who made so many calls, whose deltas have this sum
  pub record IsPass (client calls sum : ℕ) (me : Me (Unit {0}) (List (Book K V F))) : Type 0 where
    pub book : me ≡ (Pass client (made_of_pass me.0) (seen_of_pass me.0) ∷ [], [])
    pub own : by_client client (seen_of_pass me.0) ≡ made_of_pass me.0
    pub counted : calls ≡ length (made_of_pass me.0)
    pub at_most : calls ≤ most_lean_calls
    pub summed : sum ≡ word_of (sum_of_deltas (made_of_pass me.0))
    pub few : client < most_lean_clients

  -- a badge with the books of the clients from a number on, who made nothing
  pub record IsRoster (next clients : ℕ) (views : List (List (Book K V F))) : Type 0 where
    pub among : next ≤ clients
    pub few : clients ≤ most_lean_clients
    pub books : views ≡ map new_pass_book (range_with_len next (clients - next)) ∷ []

  -- a badge with the book of a role of this class
  abbrev pub IsRole : ClassView → List (List (Book K V F)) → Type 0
  IsRole class views = views ≡ (Role (salt_of_role views) class (opening_of_role views) (kept_of_role views) ∷ []) ∷ []

  -- a badge with the book of a moment
  abbrev pub IsMoment : List (List (Book K V F)) → Type 0
  IsMoment views = views ≡ (Moment (seen_of_moment views) ∷ []) ∷ []

  -- the book of a pass, and that of a role
  abbrev pub pass_book : PassView K V F → Book K V F
  pass_book p = Pass p.client p.made p.seen

  abbrev pub role_book : RoleView K V F → Book K V F
  role_book r = Role r.salt r.class r.opening r.kept

  -- the book of a moment, if there is one
  abbrev pub moment_books : Option (MomentView K V F) → List (Book K V F)
  moment_books None = []
  moment_books (Some m) = Moment m.seen ∷ []

-- disjoint classes of these sizes cover every hash: of 65,536 side by side they have as many together
pub record AreWide (classes : List ClassView) : Type 0 where
  pub lawful : All IsClass classes
  pub wide : most_bins ≤ sum_by (λ c. most_bins / c.n) classes
