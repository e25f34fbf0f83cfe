-- A ledger, its passes and its roles, as contracts see them.
use Rattle.std.specs.Prelude.{ℕ, List}
use Rattle.hashkeys.specs.Classes.{ClassView}
use Rattle.hashkeys.specs.declared.hashing.Salt.{Salt}
use Rattle.bin_history.specs.Records.{RecordView}
use Rattle.bin_history.specs.declared.form.Form.{Form}
-- which ledger it is: no two have one identity
pub use Rattle.atomic_table.specs.Seated.{TableId as LedgerId}

-- a ledger: the form of the bins whose books it keeps, the salt of their hashes, how many clients it has, and the pairs
-- that its bins opened with
pub record LedgerView (K V : Type 0) : Type 0 where
  pub id : LedgerId
  pub form : Form
  pub salt : Salt
  pub clients : ℕ
  pub opening : List (K × V)

-- a pass: its client, the calls that the client made, and the calls of all clients that it has seen, a front of the one
-- order
pub record PassView (K V F : Type 0) : Type 0 where
  pub ledger : LedgerId
  pub client : ℕ
  pub made : List (RecordView K V F)
  pub seen : List (RecordView K V F)

-- a moment: a front of the one order of all calls
pub record MomentView (K V F : Type 0) : Type 0 where
  pub ledger : LedgerId
  pub seen : List (RecordView K V F)

-- the passes that nobody has taken yet: those of the clients from a number on
pub record RosterView : Type 0 where
  pub ledger : LedgerId
  pub next : ℕ
  pub clients : ℕ

-- a role: its class, the opening pairs of that class, and the records of calls on its keys that were kept since
pub record RoleView (K V F : Type 0) : Type 0 where
  pub ledger : LedgerId
  pub salt : Salt
  pub class : ClassView
  pub opening : List (K × V)
  pub kept : List (RecordView K V F)
