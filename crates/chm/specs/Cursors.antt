-- A walk that shows a bin at a time.
use Rattle.std.specs.Prelude.{◌≡◌, ℕ, Bool, Option, Some, None, List, [], ◌∷◌}
use Rattle.std.specs.Borrow.{Bor}
use Rattle.hashkeys.specs.Classes.{ClassView}
use Rattle.bin_history.specs.declared.call.Call.{Call}
use Rattle.bin_history.specs.Records.{RecordView}
use Rattle.count_ledger.specs.Fronts.{HasSeen}
use Rattle.count_ledger.specs.Views.{LedgerView, PassView}
pub use Rattle.part_walks.specs.Parts.{HasComeTo}
use Rattle.chm.specs.Cleared.{HasMade}
use Rattle.chm.specs.Visits.{VisitView, IsVisit, classes_of_visits}

-- where a walk of a map that opened with n bins has come to: the class that is next, or none at the end
pub record CursorView : Type 0 where
  pub n : ℕ
  pub next : Option ClassView

-- bins of these classes have been passed: in walk order, each hash before the next class is of one of them, at the end
-- every hash
abbrev pub HasPassed : CursorView → List ClassView → Type 0
HasPassed cursor classes = HasComeTo cursor.n cursor.next classes

-- these visits have been shown
abbrev pub HasCome : {K V : Type 0} → CursorView → List (VisitView K V) → Type 0
HasCome cursor shown = HasPassed cursor (classes_of_visits shown)

-- what may have been shown, as a list
abbrev pub list_of : {X : Type 0} → Option X → List X
list_of None = []
list_of (Some x) = x ∷ []

-- the pass made some calls more, or none, and has then seen more
abbrev pub HasGoneOn : {K V F : Type 0} → PassView K V F → PassView K V F → Type 0
HasGoneOn {K} {V} {F} old new = (made : List (RecordView K V F)) × HasMade made old new

module _ {K V F : Type 0} (same_key : K → K → Bool) (code : K → ℕ) (after : Call K V F → Option V → Option V) where
  -- a pass visited bins one after the other, and may have made calls before each visit and at the end: a visit shows a
  -- front, which begins with all that the pass had seen before and with the front of each visit before
  abbrev pub AreShown : LedgerView K V → PassView K V F → List (VisitView K V) → PassView K V F → Type 0
  AreShown ledger old [] new = HasGoneOn old new
  AreShown ledger old (v ∷ vs) new = (mid then : PassView K V F) × HasGoneOn old mid
      × HasSeen same_key after ledger mid then × IsVisit same_key code ledger then.seen v × AreShown ledger then vs new

-- a function was used at references to the key and the value of an entry, and became another
abbrev pub IsUsedAt : {G K V : Type 0} → (G → Bor K → Bor V → Unit {0} → G → Type 0) → G → K × V → G → Type 0
IsUsedAt {G} {K} {V} step old e new =
    (key : Bor K) × (value : Bor V) × (key.now ≡ e.0) × (value.now ≡ e.1) × step old key value tt new
