-- A map with the passes of all its clients.
use Rattle.std.specs.Prelude.{◌≡◌, ◌<◌, ℕ, List, length, slice_index_or, All, Bool, Option}
use Rattle.std.specs.List.{AllZip}
use Rattle.bin_history.specs.Records.{RecordView}
use Rattle.bin_history.specs.declared.call.Call.{Call}
use Rattle.count_ledger.specs.Fronts.{BeginsWith, HasSeen}
use Rattle.count_ledger.specs.Views.{LedgerView, PassView}
use Rattle.chm.specs.Shares.{HaveWorked}
use Rattle.chm.specs.Views.{MapView}

-- a team has no more clients than this
abbrev pub most_team_clients : ℕ
most_team_clients = 32

pub record TeamView (K V F : Type 0) : Type 0 where
  pub map : MapView K V
  pub passes : List (PassView K V F)

-- client 0's pass is the first, and so on
abbrev pub AreInOrder : {K V F : Type 0} → List (PassView K V F) → Type 0
AreInOrder {K} {V} {F} passes = (i : ℕ) (p : PassView K V F) → i < length passes → (slice_index_or passes i p).client ≡ i

-- all passes are of the map, in order, and no client's is missing
pub record IsTeam {K V F : Type 0} (map : MapView K V) (passes : List (PassView K V F)) : Type 0 where
  pub own : All (λ p. p.ledger ≡ map.ledger.id) passes
  pub all : length passes ≡ map.ledger.clients
  pub in_order : AreInOrder passes

module _ {K V F : Type 0} (same_key : K → K → Bool) (after : Call K V F → Option V → Option V) where
  -- each client learned of a moment that joins what all of them had seen
  pub record HaveMet (ledger : LedgerView K V) (old new : List (PassView K V F)) (joined : List (RecordView K V F)) :
      Type 0 where
    pub joins : All (λ p. BeginsWith joined p.seen) old
    pub seen : AllZip (HasSeen same_key after ledger) old new
    pub learned : All (λ p. BeginsWith p.seen joined) new

  -- each client did its work with its own pass, and then all learned what all had seen
  abbrev pub HaveWorkedTogether : {T : Type 0} → (PassView K V F → PassView K V F → T → Type 0) → LedgerView K V →
      List (PassView K V F) → List (PassView K V F) → List T → Type 0
  HaveWorkedTogether does ledger old new answers = (worked : List (PassView K V F)) × (joined : List (RecordView K V F))
      × HaveWorked does old worked answers × HaveMet ledger worked new joined
