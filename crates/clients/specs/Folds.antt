-- What a client does that goes over the entries of a map.
use Rattle.std.specs.Prelude.{◌≡◌, ℕ, Bool, Option, List, All}
use Rattle.std.specs.List.{FoldsTo}
use Rattle.bin_history.specs.Entries.{HasDistinctKeys}
use Rattle.bin_history.specs.declared.call.Call.{Call}
use Rattle.count_ledger.specs.Views.{PassView}
use Rattle.chm.specs.Views.{MapView}
use Rattle.chm.specs.Visits.{VisitView, AreVisits, IsOwn, shown_by}

-- a function and a total, and what they are after an entry
abbrev pub turn : {G B E : Type 0} → (G → B → E → B → G → Type 0) → G × B → E → G × B → Type 0
turn step old e new = step old.0 old.1 e new.1 new.0

-- used at each pair in order, from a first total on, the function gives the last one
abbrev pub FoldsPairs : {G B E : Type 0} → (G → B → E → B → G → Type 0) → G → B → List E → B → Type 0
FoldsPairs {G} step f init pairs total = (last : G) × FoldsTo (turn step) (f, init) pairs (last, total)

-- a function, and what it is after an entry
abbrev pub use_on : {G E : Type 0} → (G → E → Unit {0} → G → Type 0) → G → E → G → Type 0
use_on step old e new = step old e tt new

-- used at each pair in order
abbrev pub UsesPairs : {G E : Type 0} → (G → E → Unit {0} → G → Type 0) → G → List E → Type 0
UsesPairs {G} step f pairs = (last : G) × FoldsTo (use_on step) f pairs last

module _ {K V F : Type 0} (same_key : K → K → Bool) (code : K → ℕ) (after : Call K V F → Option V → Option V) where
  -- visits of a whole table of some size, which no key comes twice in; with one client they show the map
  pub record AreWhole (map : MapView K V) (old new : PassView K V F) (visits : List (VisitView K V)) : Type 0 where
    pub size : ℕ
    pub whole : AreVisits same_key code after size map.ledger old visits new
    pub distinct : HasDistinctKeys same_key (shown_by visits)
    pub own : map.ledger.clients ≡ 1 → All (IsOwn same_key code map.ledger old) visits

  -- this holds of the pairs that a walk shows
  abbrev pub WalksOver : MapView K V → PassView K V F → PassView K V F → (List (K × V) → Type 0) → Type 0
  WalksOver map old new holds = (visits : List (VisitView K V)) × AreWhole map old new visits × holds (shown_by visits)
