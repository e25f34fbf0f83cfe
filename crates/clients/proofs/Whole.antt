-- A whole walk, by its visits.
use Rattle.std.proofs.Common.{◌≡◌, ℕ, Bool, Option, None, List, Decides}
use Rattle.bin_history.specs.declared.call.Call.{Call}
use Rattle.count_ledger.specs.Views.{PassView}
use Rattle.chm.specs.Cursors.{HasComeTo}
use Rattle.chm.specs.Views.{MapView}
use Rattle.chm.specs.Visits.{AreVisited, AreVisits, VisitView, classes_of_visits}
use Rattle.chm.proofs.Visiting.{distinct_visits, visits_own}
use Rattle.clients.specs.Folds.{AreWhole}

module _ {K V F : Type 0} (same : K → K → Bool) (after : Call K V F → Option V → Option V)
    (tells : (x y : K) → Decides (same x y) (x ≡ y)) (code : K → ℕ) where
  pub whole-walk : (n : ℕ) (map : MapView K V) (old new : PassView K V F) (visits : List (VisitView K V)) →
      AreVisited same code after map.ledger old visits new → HasComeTo n None (classes_of_visits visits) →
      AreWhole same code after map old new visits
  whole-walk n map old new visits visited walk =
      let all : AreVisits same code after n map.ledger old visits new = record { visited = visited; walk = walk } in
      record {
        size = n;
        whole = all;
        distinct = distinct_visits same after map.ledger tells code n old new visits all;
        own = λ one. visits_own same after map.ledger tells code old new visits one visited;
      }
