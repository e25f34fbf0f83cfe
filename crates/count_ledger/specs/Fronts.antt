-- Fronts of the one order of all calls: what a client has seen of it.
use Rattle.std.specs.Prelude.{◌≡◌, ℕ, ◌<◌, Bool, true, Option, List, [], ◌∷◌, ◌++◌, All}
use Rattle.hashkeys.specs.Classes.{ClassView, is_of}
use Rattle.bin_history.specs.Calls.{key_of}
use Rattle.bin_history.specs.Cells.{records_on, IsCellHistory}
use Rattle.bin_history.specs.Clients.{by_client}
use Rattle.bin_history.specs.Entries.{lookup}
use Rattle.bin_history.specs.Part.{part_of_entries, part_of_records}
use Rattle.bin_history.specs.Plain.{IsLegal}
use Rattle.bin_history.specs.Records.{RecordView}
use Rattle.bin_history.specs.declared.call.Call.{Call}
use Rattle.count_ledger.specs.Views.{LedgerView, PassView, RoleView}

-- a list begins with another
abbrev pub BeginsWith : {X : Type 0} → List X → List X → Type 0
BeginsWith {X} whole front = (rest : List X) × (whole ≡ front ++ rest)

-- the pass has seen more, and is else as it was
pub record HasSeenMore {K V F : Type 0} (old new : PassView K V F) : Type 0 where
  pub seen : BeginsWith new.seen old.seen
  pub pass : new ≡ record old { seen = new.seen }

module _ {K V F : Type 0} (same_key : K → K → Bool) (after : Call K V F → Option V → Option V) where
  -- a front of the one order of all calls, as a client with this pass sees it: it begins with all that the client had
  -- seen, has of the client's calls just those that it made, and is legal for a map of one thread on the opening map
  pub record IsFront (ledger : LedgerView K V) (pass : PassView K V F) (front : List (RecordView K V F)) : Type 0 where
    pub client : pass.client < ledger.clients
    pub seen : BeginsWith front pass.seen
    pub own : by_client pass.client front ≡ pass.made
    pub legal : IsLegal same_key after (lookup same_key ledger.opening) front
    pub clients : All (λ r. r.client < ledger.clients) front

  -- a call was posted behind such a front: the pass made it and has then seen it, and the role, which keeps it, had
  -- kept of the front just the calls on keys of its class
  pub record IsPosted (code : K → ℕ) (ledger : LedgerView K V) (old new : PassView K V F) (role : RoleView K V F)
      (r : RecordView K V F) (before : List (RecordView K V F)) : Type 0 where
    pub front : IsFront ledger old before
    pub kept : role.kept ≡ part_of_records (is_of code role.salt role.class) before
    pub pass : new ≡ record old { made = old.made ++ r ∷ []; seen = before ++ r ∷ [] }

  -- the pass has seen all calls so far, and is else as it was
  pub record HasSeen (ledger : LedgerView K V) (old new : PassView K V F) : Type 0 where
    pub front : IsFront ledger old new.seen
    pub pass : new ≡ record old { seen = new.seen }

  -- the part of a front in a class, which is what a role of the class keeps: records of calls on keys of the class,
  -- legal on the opening map's part, and those of the pass's client just the calls that it made on such keys
  pub record IsHistory (code : K → ℕ) (ledger : LedgerView K V) (pass : PassView K V F) (class : ClassView)
      (kept : List (RecordView K V F)) : Type 0 where
    pub client : pass.client < ledger.clients
    pub legal : IsLegal same_key after
        (lookup same_key (part_of_entries (is_of code ledger.salt class) ledger.opening)) kept
    pub clients : All (λ r. r.client < ledger.clients) kept
    pub of_class : All (λ r. is_of code ledger.salt class (key_of r.call) ≡ true) kept
    pub own : by_client pass.client kept ≡ part_of_records (is_of code ledger.salt class) pass.made

  -- the calls of a front on one key: those of one cell, from the opening value on, and those of the pass's client just
  -- the calls that it made on the key
  pub record IsHistoryOn (ledger : LedgerView K V) (pass : PassView K V F) (key : K) (rs : List (RecordView K V F)) :
      Type 0 where
    pub client : pass.client < ledger.clients
    pub legal : IsCellHistory after (lookup same_key ledger.opening key) rs
    pub clients : All (λ r. r.client < ledger.clients) rs
    pub own : by_client pass.client rs ≡ records_on same_key key pass.made
