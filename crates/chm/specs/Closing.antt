-- Maps that are closed, or could not be.
use Rattle.std.specs.Prelude.{◌≡◌, ◌≢◌, ℕ, ◌<◌, ◌↔◌, ◌⊎◌, Bool, Option, Some, None, List, [], ◌++◌, length, IfSome}
use Rattle.bin_history.specs.Records.{RecordView}
use Rattle.bin_history.specs.declared.call.Call.{Call}
use Rattle.count_ledger.specs.Fronts.{BeginsWith}
use Rattle.count_ledger.specs.Opening.{left_in}
use Rattle.count_ledger.specs.Settled.{seen_at}
use Rattle.count_ledger.specs.Views.{LedgerView, MomentView, PassView, RosterView}
use Rattle.chm.specs.Headline.{IsOneOrder, QuietView}
use Rattle.chm.specs.Views.{MapView}
use Rattle.chm.specs.declared.closed.close.Rest.{Rest}
use Rattle.chm.specs.declared.fault.Fault.{Fault}
use Rattle.chm.specs.declared.fault.Fault.TheVariants.{NoMemory, PassMissing, BinMissing}

module _ {K V F : Type 0} where
  -- a roster and a moment, if there is one, of this ledger
  pub record IsRestOf (ledger : LedgerView K V) (rest : Rest K V F) : Type 0 where
    pub id : rest.roster.ledger ≡ ledger.id
    pub clients : rest.roster.clients ≡ ledger.clients
    pub known : IfSome rest.known (λ m. m.ledger ≡ ledger.id)

  -- how many passes were taken
  abbrev pub taken_with : ℕ → Option (Rest K V F) → ℕ
  taken_with clients None = clients
  taken_with clients (Some rest) = rest.roster.next

  -- those, and the ones that nobody took
  abbrev pub passes_with : Option (Rest K V F) → List (PassView K V F) → List (PassView K V F)
  passes_with None passes = passes
  passes_with (Some rest) passes = passes ++ left_in rest.roster

  -- the calls that the moment shows, if there is one
  abbrev pub seen_with : Option (Rest K V F) → List (RecordView K V F)
  seen_with None = []
  seen_with (Some rest) = seen_at rest.known

-- an order of all calls of a closed map begins with these calls
abbrev pub IsKnown : {K V F : Type 0} → (K → K → Bool) → (K → ℕ) → (Call K V F → Option V → Option V)
    → List (RecordView K V F) → QuietView K V F → Type 0
IsKnown {K} {V} {F} same_key code after known q =
    (calls : List (RecordView K V F)) × IsOneOrder same_key code after q calls × BeginsWith calls known

-- why the map was not closed, and what came back
pub record NotClosedView (K V F : Type 0) : Type 0 where
  pub fault : Fault
  pub map : Option (MapView K V)
  pub passes : List (PassView K V F)

-- the passes came back as they were; so did the map, but where bins were missing; and a pass was missing just where
-- there were fewer than were taken
pub record IsNotClosedFor {K V F : Type 0} (taken : ℕ) (map : MapView K V) (passes : List (PassView K V F))
    (e : NotClosedView K V F) : Type 0 where
  pub passes_are : e.passes ≡ passes
  pub missing : (e.fault ≡ PassMissing) ↔ (length passes < taken)
  pub kept : ((e.fault ≡ BinMissing) × (e.map ≡ None)) ⊎ ((e.fault ≢ BinMissing) × (e.map ≡ Some map))
  pub faults : (e.fault ≡ NoMemory) ⊎ (e.fault ≡ PassMissing) ⊎ (e.fault ≡ BinMissing)

-- the same of a map whose passes were all taken
abbrev pub IsNotClosed : {K V F : Type 0} → MapView K V → List (PassView K V F) → NotClosedView K V F → Type 0
IsNotClosed map passes e = IsNotClosedFor map.ledger.clients map passes e

-- of a map that was to be closed with its roster
pub record NotClosedWithView (K V F : Type 0) : Type 0 where
  pub fault : Fault
  pub map : Option (MapView K V)
  pub roster : RosterView
  pub known : Option (MomentView K V F)
  pub passes : List (PassView K V F)

pub record IsNotClosedWith {K V F : Type 0} (map : MapView K V) (roster : RosterView)
    (known : Option (MomentView K V F)) (passes : List (PassView K V F))
    (e : NotClosedWithView K V F) : Type 0 where
  pub refused : IsNotClosedFor roster.next map passes
      (record { fault = e.fault; map = e.map; passes = e.passes })
  pub roster_is : e.roster ≡ roster
  pub known_is : e.known ≡ known
