-- A walk over all indexes of a table, by its visits.
use Rattle.std.proofs.Common.{◌≡◌, ℕ, ◌<◌, Bool, cond, Option, Some, None, Decides, List, [], ◌∷◌, ◌++◌, refl, sym, ap, subst}
use Rattle.std.proofs.Common.{◌∙◌, arith}
use Rattle.std.proofs.lemmas.Bool.{lt-ltb, le-ltb}
use Rattle.hashkeys.specs.Classes.{ClassView, IsTableSize}
use Rattle.bin_history.specs.declared.call.Call.{Call}
use Rattle.count_ledger.specs.Fronts.{HasSeen, HasSeenMore}
use Rattle.count_ledger.specs.Views.{PassView}
use Rattle.bin_layout.specs.Walks.{IsWalk}
use Rattle.bin_layout.proofs.Cursor.{IsWalkTo-first}
use Rattle.bin_layout.proofs.Sizes.{size_pos}
use Rattle.part_walks.specs.Parts.{HasComeTo, HasWalked, IsWalkFrom, PartView, class_at}
use Rattle.chm.specs.Views.{MapView}
use Rattle.chm.specs.Visits.{AreVisited, IsVisit, VisitView, classes_of_visits}
use Rattle.chm.proofs.Visiting.{AreVisited-push, AreVisited-seen, classes-push, visits_own}
use Rattle.clients.specs.Folds.{AreWhole}
use Rattle.clients.specs.Found.{AreSome}
use Rattle.clients.proofs.Whole.{whole-walk}

-- a walk over all indexes of a table is a walk of the table
all-walked : (n : ℕ) (classes : List ClassView) → 0 < n → IsWalkFrom n 0 n classes → IsWalk n classes
all-walked n classes some walk =
    let first : ClassView = record { n = n; index = 0 } in
    let behind : ClassView = record { n = n; index = n } in
    let begins : Some first ≡ class_at n 0 = ap (λ (b : Bool). cond b (Some first) None) (sym (lt-ltb 0 n some)) in
    let ends : class_at n n ≡ None = ap (λ (b : Bool). cond b (Some behind) None) (le-ltb n n (omega arith)) in
    let at : HasComeTo n (class_at n 0) [] = subst (λ (o : Option ClassView). HasComeTo n o []) begins
    (IsWalkTo-first n first refl) in
    subst (λ (o : Option ClassView). HasComeTo n o classes) ends (walk [] at)

module _ {K V F : Type 0} (same : K → K → Bool) (after : Call K V F → Option V → Option V)
    (tells : (x y : K) → Decides (same x y) (x ≡ y)) (code : K → ℕ) (map : MapView K V) where
  -- a pass has visited the bins up to where a walk over all indexes of a table has come
  pub record HasShown (old new : PassView K V F) (walk : PartView) (visits : List (VisitView K V)) : Type 0 where
    pub visited : AreVisited same code after map.ledger old visits new
    pub walked : HasWalked walk (classes_of_visits visits)
    pub size : IsTableSize walk.n
    pub lo : walk.lo ≡ 0
    pub hi : walk.hi ≡ walk.n
    pub own : new.ledger ≡ map.ledger.id

  pub HasShown-first : (old : PassView K V F) (walk : PartView) (n : ℕ) (next : Option ClassView) →
      walk ≡ record { n = n; lo = 0; hi = n; next = next } → IsTableSize n → HasWalked walk [] →
      old.ledger ≡ map.ledger.id → HasShown old old walk []
  HasShown-first old walk n next is size begun own = record {
    visited = refl;
    walked = begun;
    size = subst IsTableSize (sym (ap (λ (w : PartView). w.n) is)) size;
    lo = ap (λ (w : PartView). w.lo) is;
    hi = ap (λ (w : PartView). w.hi) is ∙ sym (ap (λ (w : PartView). w.n) is);
    own = own;
  }

  pub HasShown-more : (old mid new : PassView K V F) (walk then : PartView) (visits : List (VisitView K V))
      (v : VisitView K V) → HasShown old mid walk visits → HasSeen same after map.ledger mid new →
      IsVisit same code map.ledger new.seen v →
      ((classes : List ClassView) → HasWalked walk classes → HasWalked then (classes ++ v.class ∷ [])) →
      then.n ≡ walk.n → then.lo ≡ walk.lo → then.hi ≡ walk.hi → HasShown old new then (visits ++ v ∷ [])
  HasShown-more old mid new walk then visits v shown seen visit goes n lo hi = record {
    visited = AreVisited-push same after map.ledger tells code old mid new visits v shown.visited seen visit;
    walked = subst (λ (cs : List ClassView). HasWalked then cs) (sym (classes-push visits v))
        (goes (classes_of_visits visits) shown.walked);
    size = subst IsTableSize (sym n) shown.size;
    lo = lo ∙ shown.lo;
    hi = hi ∙ shown.hi ∙ sym n;
    own = ap (λ (p : PassView K V F). p.ledger) seen.pass ∙ shown.own;
  }

  pub HasShown-seen : (old new : PassView K V F) (walk : PartView) (visits : List (VisitView K V)) →
      HasShown old new walk visits → HasSeenMore old new
  HasShown-seen old new walk visits shown =
      AreVisited-seen same after map.ledger tells code old new visits shown.visited

  pub HasShown-some : (old new : PassView K V F) (walk : PartView) (visits : List (VisitView K V)) →
      HasShown old new walk visits → AreSome same code after map old new visits
  HasShown-some old new walk visits shown = record {
    visited = shown.visited;
    own = λ one. visits_own same after map.ledger tells code old new visits one shown.visited;
  }

  -- at the end of the walk the whole table has been shown
  pub HasShown-whole : (old new : PassView K V F) (walk : PartView) (visits : List (VisitView K V)) →
      HasShown old new walk visits →
      ((classes : List ClassView) → HasWalked walk classes → IsWalkFrom walk.n walk.lo walk.hi classes) →
      AreWhole same code after map old new visits
  HasShown-whole old new walk visits shown over =
      let classes = classes_of_visits visits in
      let all : IsWalkFrom walk.n 0 walk.n classes = subst (λ (x : ℕ). IsWalkFrom walk.n x walk.n classes) shown.lo
      (subst (λ (x : ℕ). IsWalkFrom walk.n walk.lo x classes) shown.hi (over classes shown.walked)) in
      whole-walk same after tells code walk.n map old new visits shown.visited
      (all-walked walk.n classes (size_pos walk.n shown.size) all)
