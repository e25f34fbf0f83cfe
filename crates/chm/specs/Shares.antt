-- What clients that share a map did.
use Rattle.std.specs.Prelude.{◌≡◌, ℕ, ◌<◌, List, length, slice_index_or, IsSomeAnd}
use Rattle.count_ledger.specs.Views.{PassView}
use Rattle.part_walks.specs.declared.seats.Seat.{Seat}

-- at each place is a pass of the client whose pass was there
abbrev pub AreSameClients : {K V F : Type 0} → List (PassView K V F) → List (PassView K V F) → Type 0
AreSameClients {K} {V} {F} old new = (i : ℕ) (p : PassView K V F) → i < length old →
    (slice_index_or new i p).client ≡ (slice_index_or old i p).client

module _ {K V F T : Type 0} (does : PassView K V F → PassView K V F → T → Type 0) where
  -- each client did its work with its own pass, and its answer stands at its place
  pub record HaveWorked (old new : List (PassView K V F)) (answers : List T) : Type 0 where
    pub as_many : length answers ≡ length old
    pub each : (i : ℕ) (p : PassView K V F) (a : T) → i < length old →
        does (slice_index_or old i p) (slice_index_or new i p) (slice_index_or answers i a)

  -- a seated client did its work
  pub record HasEnded (before after : Seat K V F T) : Type 0 where
    pub ledger : after.pass.ledger ≡ before.pass.ledger
    pub client : after.pass.client ≡ before.pass.client
    pub done : IsSomeAnd after.part (does before.pass after.pass)
