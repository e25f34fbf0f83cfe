-- What clients that share the bins of a live map are shown.
use Rattle.std.specs.Prelude.{◌≡◌, ℕ, ◌+◌, ◌*◌, ◌/◌, ◌⊎◌, Bool, Option, Some, None, List, [], ◌∷◌, flat_map}
use Rattle.std.specs.Prelude.{◌<◌, ◌≤◌, ◌^◌, length, map, slice_index_or, IsSomeAnd}
use Rattle.std.specs.List.{AllZip}
use Rattle.bin_history.specs.declared.call.Call.{Call}
use Rattle.std.specs.List.Sorted.{IsPermutation}
use Rattle.bulk_tasks.specs.Actions.{answers}
use Rattle.bulk_tasks.specs.Folds.{plain_fold}
use Rattle.bulk_tasks.specs.Searches.{IsHit, IsNowhere}
use Rattle.count_ledger.specs.Fronts.{HasSeenMore}
use Rattle.count_ledger.specs.Views.{LedgerView, PassView}
use Rattle.bin_layout.specs.Walks.{IsWalk}
use Rattle.part_walks.specs.Parts.{IsWalkFrom}
use Rattle.chm.specs.Visits.{VisitView, AreVisited, classes_of_visits, shown_by}
use Rattle.part_walks.specs.declared.seats.Seat.{Seat}

-- the visits of all clients, in the order of their shares
abbrev pub all_visits : {K V : Type 0} → List (List (VisitView K V)) → List (VisitView K V)
all_visits parts = flat_map (λ visits. visits) parts

-- all that they show
abbrev pub all_shown : {K V : Type 0} → List (List (VisitView K V)) → List (K × V)
all_shown parts = shown_by (all_visits parts)

module _ {K V F : Type 0} (same_key : K → K → Bool) (code : K → ℕ) (after : Call K V F → Option V → Option V) where
  -- each client visited bins one after the other: a visit shows a front, which begins with all that the client had seen
  -- before and with the front of each of its visits before
  abbrev pub HaveVisited : LedgerView K V → List (PassView K V F) → List (List (VisitView K V)) →
      List (PassView K V F) → Type 0
  HaveVisited ledger [] [] [] = Unit {0}
  HaveVisited ledger (old ∷ olds) (visits ∷ parts) (new ∷ news) =
      AreVisited same_key code after ledger old visits new × HaveVisited ledger olds parts news
  HaveVisited ledger _ _ _ = ⊥

  -- the same of a whole table: one client's visits behind the other's, they stand in the walk order of a table of some
  -- size, and every hash is of one of them
  pub record AreShared (ledger : LedgerView K V) (olds : List (PassView K V F)) (parts : List (List (VisitView K V)))
      (news : List (PassView K V F)) : Type 0 where
    pub visited : HaveVisited ledger olds parts news
    pub size : ℕ
    pub walk : IsWalk size (classes_of_visits (all_visits parts))

  -- the value of all that is shown of a whole table, in whatever order it stands
  abbrev pub IsReduced : {A : Type 0} → (K → V → A) → (A → A → A) → LedgerView K V → List (PassView K V F) →
      List (PassView K V F) → Option A → Type 0
  IsReduced {A} lift join ledger olds news value = (parts : List (List (VisitView K V))) × AreShared ledger olds parts news
      × (value ≡ plain_fold lift join (all_shown parts))
      × ((es : List (K × V)) → IsPermutation (all_shown parts) es → value ≡ plain_fold lift join es)

  -- 2^64 pairs or more were shown
  abbrev pub AreTooMany : LedgerView K V → List (PassView K V F) → List (PassView K V F) → Type 0
  AreTooMany ledger olds news = (parts : List (List (VisitView K V))) × HaveVisited ledger olds parts news
      × (2 ^ 64 ≤ length (all_shown parts))

  -- what an action returned for all that is shown of a whole table, in the same order
  abbrev pub IsActed : {R : Type 0} → (K → V → R) → LedgerView K V → List (PassView K V F) → List (PassView K V F) →
      List R → Type 0
  IsActed {R} act ledger olds news list = (parts : List (List (VisitView K V))) × AreShared ledger olds parts news
      × (list ≡ answers act (all_shown parts))

  -- what a search found: something in an entry that was shown, or nothing in any entry of a whole table
  abbrev pub IsSought : {U : Type 0} → (K → V → Option U) → LedgerView K V → List (PassView K V F) →
      List (PassView K V F) → Option U → Type 0
  IsSought probe ledger olds news (Some u) = (parts : List (List (VisitView K V))) × HaveVisited ledger olds parts news
      × IsHit probe (all_shown parts) u
  IsSought probe ledger olds news None = (parts : List (List (VisitView K V))) × AreShared ledger olds parts news
      × IsNowhere probe (all_shown parts)

  -- the same where the clients may have seen more before, in a search that was given up
  abbrev pub IsFound : {U : Type 0} → (K → V → Option U) → LedgerView K V → List (PassView K V F) →
      List (PassView K V F) → Option U → Type 0
  IsFound probe ledger olds news found = (starts : List (PassView K V F)) × AllZip HasSeenMore olds starts
      × IsSought probe ledger starts news found

  module _ {T : Type 0} (reached : List (K × V) → T → Type 0) (ends : T → Type 0) where
    -- a client visited its share of so many, of a table of n bins, or left the rest of it out, and collected what it was
    -- shown
    pub record HasVisited (ledger : LedgerView K V) (n shares number : ℕ) (before later : Seat K V F T) : Type 0 where
      pub visits : List (VisitView K V)
      pub visited : AreVisited same_key code after ledger before.pass visits later.pass
      pub seen : HasSeenMore before.pass later.pass
      pub collected : IsSomeAnd later.part (λ part. reached (shown_by visits) part × (ends part
          ⊎ IsWalkFrom n (number * n / shares) ((number + 1) * n / shares) (classes_of_visits visits)))

    -- clients were seated, each visited its share of a table of n bins, and they left their seats
    pub record HaveShared (ledger : LedgerView K V) (n : ℕ) (olds news : List (PassView K V F)) (parts : List T) : Type 0
      where
        pub before : List (Seat K V F T)
        pub later : List (Seat K V F T)
        pub seated : map (λ s. s.pass) before ≡ olds
        pub left : map (λ s. s.pass) later ≡ news
        pub told : map Some parts ≡ map (λ s. s.part) later
        pub as_many : length later ≡ length before
        pub each : (i : ℕ) (d : Seat K V F T) → i < length before →
            HasVisited ledger n (length before) i (slice_index_or before i d) (slice_index_or later i d)

    -- clients collected what they were shown of a whole table, or left some out
    pub record HaveGathered (ledger : LedgerView K V) (olds news : List (PassView K V F)) (part : T) : Type 0 where
      pub parts : List (List (VisitView K V))
      pub visited : HaveVisited ledger olds parts news
      pub seen : AllZip HasSeenMore olds news
      pub collected : reached (all_shown parts) part
      pub whole : ends part ⊎ AreShared ledger olds parts news
