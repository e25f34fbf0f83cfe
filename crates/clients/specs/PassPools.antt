-- The pass pool of a shared map.
use Rattle.std.specs.Prelude.{◌≡◌, ◌⊎◌, ◌+◌, ◌*◌, ◌^◌, ◌<◌, ℕ, Option, Some, None, IsSomeAnd, List, [], ◌∷◌, All, length}
use Rattle.std.specs.Prelude.{slice_index_or}
use Rattle.count_ledger.specs.Names.{numbers_of}
use Rattle.count_ledger.specs.Views.{PassView, RosterView}
use Rattle.chm.specs.Views.{MapView}
use Rattle.chm.specs.declared.fault.Fault.{Fault}
use Rattle.chm.specs.declared.fault.Fault.TheVariants.{NoMemory, PassFull, PassMissing, BinMissing}
use Rattle.clients.specs.declared.client_fault.ClientFault.{ClientFault}
use Rattle.clients.specs.declared.client_fault.ClientFault.TheVariants.{NoMemory as NoRoom, ClientsFull}
use Rattle.clients.specs.Teams.{AreInOrder}

-- a row's tag: the number of its first client, how many pass slots it has, and the numbers of its ledger
abbrev pub first_in : List ℕ → ℕ
first_in [] = 0
first_in (first ∷ rest) = first

abbrev pub len_in : List ℕ → ℕ
len_in [] = 0
len_in (first ∷ []) = 0
len_in (first ∷ len ∷ ledger) = len

abbrev pub ledger_in : List ℕ → List ℕ
ledger_in [] = []
ledger_in (first ∷ []) = []
ledger_in (first ∷ len ∷ ledger) = ledger

-- as many pass slots as the tag says, each for the pass of one client of the ledger, from its first client on
abbrev pub ArePassSlots : List ℕ → List (List ℕ) → Type 0
ArePassSlots tag pass_slots = (length pass_slots ≡ len_in tag)
    × ((i : ℕ) (c : List ℕ) → i < length pass_slots → slice_index_or pass_slots i c ≡ (first_in tag + i) ∷ ledger_in tag)

-- a row of pass slots: its first client, how many clients it is for, the numbers of their ledger, and its place, which
-- no other row has
pub record RowView : Type 0 where
  pub first : ℕ
  pub len : ℕ
  pub ledger : List ℕ
  pub place : ℕ

-- row i has 8 * 2^i pass slots, and the rows before it 8 (2^i - 1)
pub record IsRow (ledger : List ℕ) (i : ℕ) (r : RowView) : Type 0 where
  pub first : r.first + 8 ≡ 8 * 2 ^ i
  pub len : r.len ≡ 8 * 2 ^ i
  pub own : r.ledger ≡ ledger

-- 14 rows, which have pass slots for 65,536 clients and more
pub record AreRows (ledger : List ℕ) (rows : List RowView) : Type 0 where
  pub all : length rows ≡ 14
  pub each : (i : ℕ) (r : RowView) → i < length rows → IsRow ledger i (slice_index_or rows i r)

-- a map, a slot for the roster of all its clients, and pass slots for its passes
pub record IsPassPool {K V : Type 0} (map : MapView K V) (roster : List ℕ) (rows : List RowView) : Type 0 where
  pub roster_of : roster ≡ map.ledger.clients ∷ numbers_of map.ledger.id
  pub rows_of : AreRows (numbers_of map.ledger.id) rows

-- a map that nobody shares: the passes that were taken, in order, and the roster of the others
pub record UnsharedView (K V F : Type 0) : Type 0 where
  pub map : MapView K V
  pub passes : List (PassView K V F)
  pub roster : RosterView

pub record IsUnshared {K V F : Type 0} (map : MapView K V) (passes : List (PassView K V F)) (roster : RosterView) :
    Type 0 where
  pub own : All (λ p. p.ledger ≡ map.ledger.id) passes
  pub in_order : AreInOrder passes
  pub taken : length passes ≡ roster.next
  pub ledger : roster.ledger ≡ map.ledger.id
  pub clients : roster.clients ≡ map.ledger.clients

-- a pass of each of so many clients, client 0's first: whoever had a client, its pass is there, with the calls that the
-- client made
pub record AreOfAll {K V F : Type 0} (clients : ℕ) (passes : List (PassView K V F)) : Type 0 where
  pub long : length passes ≡ clients
  pub in_order : AreInOrder passes

-- what comes back of a map that could not be closed: it is as it was, but where bins were missing. It is shared still
-- where a pass was missing
abbrev pub IsKept : {K V F : Type 0} → MapView K V → Fault → Option (MapView K V) → Option (UnsharedView K V F) → Type 0
IsKept map fault shared unshared =
    (((fault ≡ NoMemory) ⊎ (fault ≡ PassMissing)) × (shared ≡ Some map) × (unshared ≡ None))
    ⊎ ((fault ≡ NoMemory) × (shared ≡ None) × IsSomeAnd unshared (λ u. u.map ≡ map))
    ⊎ ((fault ≡ BinMissing) × (shared ≡ None) × (unshared ≡ None))

-- the fault that says why a client was waited for in vain
abbrev pub fault_of : ClientFault → Fault
fault_of NoRoom = NoMemory
fault_of ClientsFull = PassFull
