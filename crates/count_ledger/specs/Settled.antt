-- What is known of a ledger when all its passes and roles are back.
use Rattle.std.specs.Prelude.{◌≡◌, ℕ, ◌<◌, ◌==◌, Option, Some, None, List, [], count_by, All}
use Rattle.hashkeys.specs.Classes.{CoverOnce, is_of}
use Rattle.bin_history.specs.Clients.{by_client}
use Rattle.bin_history.specs.Part.{part_of_records}
use Rattle.bin_history.specs.Records.{RecordView}
use Rattle.count_ledger.specs.Views.{LedgerView, MomentView, PassView, RoleView}
use Rattle.count_ledger.specs.Books.{BooksAgree, IsPassOf, IsRoleOf, classes_of_roles}
use Rattle.count_ledger.specs.Fronts.{BeginsWith}

-- the calls that a moment shows, if there is one
abbrev pub seen_at : {K V F : Type 0} → Option (MomentView K V F) → List (RecordView K V F)
seen_at None = []
seen_at (Some moment) = moment.seen

-- all calls of all clients in one order, which begins with what each pass has seen: each client's are, in order, those
-- that its pass made, and those on keys of a role's class are, in order, those that the role kept
pub record IsOrder {K V F : Type 0} (code : K → ℕ) (ledger : LedgerView K V) (passes : List (PassView K V F))
    (roles : List (RoleView K V F))
    (calls : List (RecordView K V F)) : Type 0 where
  pub clients : All (λ x. x.client < ledger.clients) calls
  pub made : All (λ p. by_client p.client calls ≡ p.made) passes
  pub seen : All (λ p. BeginsWith calls p.seen) passes
  pub kept : All (λ r. part_of_records (is_of code r.salt r.class) calls ≡ r.kept) roles

-- the passes are those of all clients, each once; the roles' classes have every hash once;
-- and for each role and client the books agree, as there is one order of all calls
pub record AreReconciled {K V F : Type 0} (code : K → ℕ) (ledger : LedgerView K V) (passes : List (PassView K V F))
    (roles : List (RoleView K V F)) :
    Type 0 where
  pub each_pass : All (IsPassOf ledger) passes
  pub each_client : (client : ℕ) → client < ledger.clients → count_by (λ p. p.client == client) passes ≡ 1
  pub each_role : All (IsRoleOf code ledger) roles
  pub each_hash : CoverOnce (classes_of_roles roles)
  pub agree : All (λ r. All (λ p. BooksAgree code p r) passes) roles
  pub order : (calls : List (RecordView K V F)) × IsOrder code ledger passes roles calls

-- there is such an order that begins with these calls
abbrev pub HasOrderFrom : {K V F : Type 0} → (K → ℕ) → LedgerView K V → List (RecordView K V F)
    → List (PassView K V F) → List (RoleView K V F) → Type 0
HasOrderFrom {K} {V} {F} code ledger known passes roles =
    (calls : List (RecordView K V F)) × IsOrder code ledger passes roles calls × BeginsWith calls known
