-- Steps of a walk that shows a bin at a time.
use Rattle.std.proofs.Common.{◌≡◌, ℕ, Bool, Option, Some, None, List, [], ◌∷◌, ◌++◌, refl, sym, subst}
use Rattle.std.specs.Prelude.{IfSome, IfNone}
use Rattle.std.proofs.lemmas.List.{append-nil}
use Rattle.hashkeys.specs.Classes.{ClassView}
use Rattle.bin_history.specs.Records.{RecordView}
use Rattle.bin_history.specs.declared.call.Call.{Call}
use Rattle.count_ledger.specs.Fronts.{HasSeen}
use Rattle.count_ledger.specs.Views.{LedgerView, PassView}
use Rattle.bin_layout.specs.Walks.{IsWalk, IsWalkTo, IsFirstAfter, IsLastInWalk}
use Rattle.chm.specs.Cleared.{HasMade}
use Rattle.chm.specs.Cursors.{AreShown, CursorView, HasCome, HasComeTo, HasGoneOn, HasPassed}
use Rattle.chm.specs.Visits.{VisitView, IsVisit, classes_of_visits}
use Rattle.chm.proofs.Clearing.{made_more, made_none}
use Rattle.chm.proofs.Visiting.{classes-push}

-- a class is passed
pub HasComeTo-past : (n : ℕ) (classes : List ClassView) (class next : ClassView) (then : Option ClassView)
    → ((cs : List ClassView) (c : ClassView) → IsWalkTo n cs next → IsFirstAfter n class c →
    IsWalkTo n (cs ++ class ∷ []) c)
    → ((cs : List ClassView) → IsWalkTo n cs next → IsLastInWalk n class → IsWalk n (cs ++ class ∷ []))
    → IfSome then (λ c. IsFirstAfter n class c) → IfNone then (IsLastInWalk n class)
    → IsWalkTo n classes next → HasComeTo n then (classes ++ class ∷ [])
HasComeTo-past n classes class next (Some c) more last is_next is_last come = more classes c come is_next
HasComeTo-past n classes class next None more last is_next is_last come = last classes come is_last

-- a bin of the class was shown
pub HasCome-push : {K V : Type 0} (cursor : CursorView) (shown : List (VisitView K V)) (v : VisitView K V) →
    HasPassed cursor (classes_of_visits shown ++ v.class ∷ []) → HasCome cursor (shown ++ v ∷ [])
HasCome-push cursor shown v passed = subst (λ (cs : List ClassView). HasPassed cursor cs) (sym (classes-push shown v)) passed

-- nothing more was shown
pub HasCome-end : {K V : Type 0} (cursor : CursorView) (shown : List (VisitView K V)) → HasCome cursor shown →
    HasCome cursor (shown ++ [])
HasCome-end {K} {V} cursor shown come =
    subst (λ (vs : List (VisitView K V)). HasCome cursor vs) (sym (append-nil shown)) come

module _ {K V F : Type 0} where
  gone_nowhere : (pass : PassView K V F) → HasGoneOn pass pass
  gone_nowhere pass = ([], made_none pass pass refl)

  pub HasGoneOn-more : (old mid new : PassView K V F) → HasGoneOn old mid → HasGoneOn mid new → HasGoneOn old new
  HasGoneOn-more old mid new (rs, made) (ss, made') = (rs ++ ss, made_more rs ss old mid new made made')

  module _ (same : K → K → Bool) (code : K → ℕ) (after : Call K V F → Option V → Option V) (ledger : LedgerView K V)
    where
      -- one visit more
      pub AreShown-push : (old mid new : PassView K V F) (vs : List (VisitView K V)) (v : VisitView K V) →
          AreShown same code after ledger old vs mid → HasSeen same after ledger mid new →
          IsVisit same code ledger new.seen v → AreShown same code after ledger old (vs ++ v ∷ []) new
      AreShown-push old mid new [] v gone seen visit = (mid, new, gone, seen, visit, gone_nowhere new)
      AreShown-push old mid new (w ∷ ws) v (m, t, gone, s, i, rest) seen visit =
          (m, t, gone, s, i, AreShown-push t mid new ws v rest seen visit)

      -- the pass goes on
      pub AreShown-gone : (old mid new : PassView K V F) (vs : List (VisitView K V)) →
          AreShown same code after ledger old vs mid → HasGoneOn mid new → AreShown same code after ledger old vs new
      AreShown-gone old mid new [] gone on = HasGoneOn-more old mid new gone on
      AreShown-gone old mid new (w ∷ ws) (m, t, gone, s, i, rest) on =
          (m, t, gone, s, i, AreShown-gone t mid new ws rest on)

      pub AreShown-end : (old new : PassView K V F) (vs : List (VisitView K V)) →
          AreShown same code after ledger old vs new → AreShown same code after ledger old (vs ++ []) new
      AreShown-end old new vs shown =
          subst (λ (ws : List (VisitView K V)). AreShown same code after ledger old ws new) (sym (append-nil vs)) shown
