-- What a client finds that walks until it has found it.
use Rattle.std.specs.Prelude.{◌≡◌, ℕ, Bool, Option, List, All}
use Rattle.bin_history.specs.declared.call.Call.{Call}
use Rattle.count_ledger.specs.Views.{PassView}
use Rattle.chm.specs.Views.{MapView}
use Rattle.chm.specs.Visits.{VisitView, AreVisited, IsOwn, shown_by}

module _ {K V F : Type 0} (same_key : K → K → Bool) (code : K → ℕ) (after : Call K V F → Option V → Option V) where
  -- visits of some bins, one after the other; with one client they show the map
  pub record AreSome (map : MapView K V) (old new : PassView K V F) (visits : List (VisitView K V)) : Type 0 where
    pub visited : AreVisited same_key code after map.ledger old visits new
    pub own : map.ledger.clients ≡ 1 → All (IsOwn same_key code map.ledger old) visits

  -- this holds of the pairs that visits of some bins show
  abbrev pub ShowsSome : MapView K V → PassView K V F → PassView K V F → (List (K × V) → Type 0) → Type 0
  ShowsSome map old new holds = (visits : List (VisitView K V)) × AreSome map old new visits × holds (shown_by visits)
