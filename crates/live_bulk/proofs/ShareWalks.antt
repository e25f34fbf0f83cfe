-- What a client is shown of its share.
use Rattle.std.proofs.Common.{◌≡◌, ℕ, Bool, Option, Decides, List, [], ◌∷◌, ◌++◌, sym, ap, subst, ◌∙◌}
use Rattle.std.proofs.lemmas.Grind.{flat_map-append}
use Rattle.std.proofs.lemmas.List.{append-nil}
use Rattle.hashkeys.specs.Classes.{ClassView}
use Rattle.bin_history.specs.declared.call.Call.{Call}
use Rattle.count_ledger.specs.Fronts.{HasSeen}
use Rattle.count_ledger.specs.Views.{LedgerView, PassView}
use Rattle.part_walks.specs.Parts.{HasWalked, IsWalkFrom, PartView}
use Rattle.chm.specs.Visits.{VisitView, AreVisited, IsVisit, classes_of_visits, shown_by}
use Rattle.chm.proofs.Visiting.{AreVisited-push, classes-push}

pub shown-push : {K V : Type 0} (vs : List (VisitView K V)) (v : VisitView K V) → shown_by (vs ++ v ∷ [])
    ≡ shown_by vs ++ v.entries
shown-push {K} {V} vs v = flat_map-append (λ (x : VisitView K V). x.entries) vs (v ∷ [])
    ∙ ap (λ (l : List (K × V)). shown_by vs ++ l) (append-nil v.entries)

module _ {K V F T : Type 0} (same : K → K → Bool) (code : K → ℕ) (after : Call K V F → Option V → Option V)
    (ledger : LedgerView K V) (reached : List (K × V) → T → Type 0) where
  -- a pass that was lent for a share has visited bins, where the walk over the share has come to, and has this part
  pub record HasShown (old : PassView K V F) (share : PartView) (new : PassView K V F) (walk : PartView) (part : T) : Type 0
    where
      pub visits : List (VisitView K V)
      pub visited : AreVisited same code after ledger old visits new
      pub collected : reached (shown_by visits) part
      pub walked : HasWalked walk (classes_of_visits visits)
      pub n : walk.n ≡ share.n
      pub lo : walk.lo ≡ share.lo
      pub hi : walk.hi ≡ share.hi
      pub own : new.ledger ≡ ledger.id

  pub HasShown-more : (tells : (x y : K) → Decides (same x y) (x ≡ y)) (old : PassView K V F) (share : PartView)
      (mid new : PassView K V F) (walk then : PartView) (part more : T) (v : VisitView K V) →
      HasShown old share mid walk part → HasSeen same after ledger mid new → IsVisit same code ledger new.seen v →
      ((es : List (K × V)) → reached es part → reached (es ++ v.entries) more) →
      ((classes : List ClassView) → HasWalked walk classes → HasWalked then (classes ++ v.class ∷ [])) →
      then.n ≡ walk.n → then.lo ≡ walk.lo → then.hi ≡ walk.hi → HasShown old share new then more
  HasShown-more tells old share mid new walk then part more v shown seen visit takes goes n lo hi = record {
    visits = shown.visits ++ v ∷ [];
    visited = AreVisited-push same after ledger tells code old mid new shown.visits v shown.visited seen visit;
    collected = subst (λ (es : List (K × V)). reached es more) (sym (shown-push shown.visits v))
        (takes (shown_by shown.visits) shown.collected);
    walked = subst (λ (cs : List ClassView). HasWalked then cs) (sym (classes-push shown.visits v))
        (goes (classes_of_visits shown.visits) shown.walked);
    n = n ∙ shown.n;
    lo = lo ∙ shown.lo;
    hi = hi ∙ shown.hi;
    own = ap (λ (p : PassView K V F). p.ledger) seen.pass ∙ shown.own;
  }

  -- at the end of the walk the share has been gone over
  pub share-over : (old : PassView K V F) (share : PartView) (new : PassView K V F) (walk : PartView) (part : T)
      (shown : HasShown old share new walk part)
      → IsWalkFrom walk.n walk.lo walk.hi (classes_of_visits shown.visits)
      → IsWalkFrom share.n share.lo share.hi (classes_of_visits shown.visits)
  share-over old share new walk part shown over =
      let classes = classes_of_visits shown.visits in
      subst (λ (x : ℕ). IsWalkFrom x share.lo share.hi classes) shown.n
      (subst (λ (x : ℕ). IsWalkFrom walk.n x share.hi classes) shown.lo
      (subst (λ (x : ℕ). IsWalkFrom walk.n walk.lo x classes) shown.hi over))
