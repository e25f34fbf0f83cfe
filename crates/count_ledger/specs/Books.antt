-- The books of passes and roles, and when they agree.
use Rattle.std.specs.Prelude.{◌≡◌, ℕ, ◌+◌, ◌<◌, ◌≤◌, Bool, true, List, [], ◌∷◌, length, map, All}
use Rattle.hashkeys.specs.Classes.{ClassView, is_of}
use Rattle.bin_history.specs.Calls.{key_of}
use Rattle.bin_history.specs.Clients.{by_client}
use Rattle.bin_history.specs.Part.{part_of_entries, part_of_records}
use Rattle.bin_history.specs.Records.{RecordView}
use Rattle.count_ledger.specs.Limits.{most_calls}
use Rattle.count_ledger.specs.Views.{LedgerView, PassView, RoleView}

module _ {K V F : Type 0} where
  -- calls of one client, whose ordinals count up from `first`
  abbrev pub AreNumbered : ℕ → ℕ → List (RecordView K V F) → Type 0
  AreNumbered client first [] = Unit {0}
  AreNumbered client first (r ∷ rs) = (r.client ≡ client) × (r.ordinal ≡ first) × AreNumbered client (first + 1) rs

  -- of the records kept, those of the client are, in order, what it made on the keys for which the test holds
  abbrev pub AgreeOn : (K → Bool) → ℕ → List (RecordView K V F) → List (RecordView K V F) → Type 0
  AgreeOn test client made kept = by_client client kept ≡ part_of_records test made

  -- the books of a pass and of a role agree: the role keeps, in order, just those of the client's calls that are on
  -- keys of its class
  abbrev pub BooksAgree : (K → ℕ) → PassView K V F → RoleView K V F → Type 0
  BooksAgree code p r = AgreeOn (is_of code r.salt r.class) p.client p.made r.kept

  -- what a ledger's rule says of a pass by itself: of the client's calls it has seen just those that it made
  pub record IsPassOf (ledger : LedgerView K V) (p : PassView K V F) : Type 0 where
    pub client : p.client < ledger.clients
    pub numbered : AreNumbered p.client 0 p.made
    pub at_most : length p.made ≤ most_calls ledger.form ledger.clients
    pub own : by_client p.client p.seen ≡ p.made

  -- what a ledger's rule says of a role by itself: its opening pairs are those of its class, and it kept calls on keys
  -- of its class alone
  pub record IsRoleOf (code : K → ℕ) (ledger : LedgerView K V) (r : RoleView K V F) : Type 0 where
    pub salt : r.salt ≡ ledger.salt
    pub opening : r.opening ≡ part_of_entries (is_of code r.salt r.class) ledger.opening
    pub clients : All (λ x. x.client < ledger.clients) r.kept
    pub of_class : All (λ x. is_of code r.salt r.class (key_of x.call) ≡ true) r.kept

  -- the classes of roles
  abbrev pub classes_of_roles : List (RoleView K V F) → List ClassView
  classes_of_roles roles = map (λ r. r.class) roles
