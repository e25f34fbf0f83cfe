-- What a client does that changes the values of all keys by a function.
use Rattle.std.specs.Prelude.{◌≡◌, ℕ, ◌+◌, ◌≤◌, ◌↔◌, ◌⊎◌, Bool, true, false, cond, Option, Some, None, List, [], ◌∷◌, ◌++◌, length}
use Rattle.std.specs.Borrow.{Bor}
use Rattle.hashkeys.specs.Classes.{ClassView}
use Rattle.bin_history.specs.Calls.{after}
use Rattle.bin_history.specs.declared.form.Form.TheVariants.{Lean}
use Rattle.count_ledger.specs.Fronts.{HasSeen, HasSeenMore}
use Rattle.count_ledger.specs.Limits.{most_calls}
use Rattle.count_ledger.specs.Views.{LedgerView, PassView}
use Rattle.bin_layout.specs.Walks.{IsWalk}
use Rattle.part_walks.specs.Parts.{HasComeTo, IsFirstOf}
use Rattle.chm.specs.Updates.{IsUpdated}
use Rattle.chm.specs.Visits.{VisitView, IsVisit, classes_of_visits}
use Rattle.chm.specs.declared.calls.update.Change.{Change}
use Rattle.chm.specs.declared.calls.update.Change.TheVariants.{Keep, Set}
use Rattle.chm.specs.declared.fault.Fault.{Fault}
use Rattle.chm.specs.declared.fault.Fault.TheVariants.{NoMemory, PassFull}

-- a function in a state and a count of values that were replaced: the state after a value, and the count with it, if it was
-- replaced
abbrev pub IsCounted : {G : Type 0} → G × ℕ → G × Bool → G × ℕ → Type 0
IsCounted p r q = q ≡ (r.0, cond r.1 (p.1 + 1) p.1)

module _ {G K V : Type 0} (step : G → Bor K → Bor V → V → G → Type 0) where
  -- the function, in one state, returned this for references to a key and its value, and came to another
  abbrev pub GivesAt : G → K → V → V → G → Type 0
  GivesAt p key v next q = (shown_key : Bor K) × (shown : Bor V) × (shown_key.now ≡ key) × (shown.now ≡ v)
      × step p shown_key shown next q

  -- the function, in one state, was used at this value of a key, or there is none and it was not; what it returned is set, and
  -- it is told whether it was used
  abbrev pub Replaces : K → G → Option V → Change V → G × Bool → Type 0
  Replaces key p None change r = (change ≡ Keep) × (r ≡ (p, false))
  Replaces key p (Some v) change r = (next : V) × (change ≡ Set next) × (r.1 ≡ true) × GivesAt p key v next r.0

  module _ {F : Type 0} (same_key : K → K → Bool) (same_value : V → V → Bool) (remapped : F → K → Option V → Option V)
      (merged : F → V → V → Option V) (ledger : LedgerView K V) where
    -- one call more changed the value that all calls before it left at the key, if there was one
    abbrev pub IsReplacedAt : K → G × ℕ → PassView K V F → G × ℕ → PassView K V F → Type 0
    IsReplacedAt key p old q new = IsUpdated same_key same_value remapped merged
        (λ before change. (r : G × Bool) × Replaces key p.0 before change r × IsCounted p r q) ledger key old new

    -- the same at the key of each of these entries, in order
    abbrev pub AreReplaced : List (K × V) → G × ℕ → PassView K V F → G × ℕ → PassView K V F → Type 0
    AreReplaced [] p old q new = (q ≡ p) × (new ≡ old)
    AreReplaced (e ∷ es) p old q new = (j : G × ℕ) × (mid : PassView K V F) × IsReplacedAt e.0 p old j mid
        × AreReplaced es j mid q new

    -- it stopped at one of them, when so many values had been replaced: because the pass was full, or for want of memory, and
    -- never for that in a lean map
    abbrev pub HasStoppedAmong : List (K × V) → Fault → G × ℕ → PassView K V F → ℕ → PassView K V F → Type 0
    HasStoppedAmong entries fault p old count new =
        (done : List (K × V)) × (next : K × V) × (left : List (K × V)) × (last : G)
        × (entries ≡ done ++ next ∷ left) × AreReplaced done p old (last, count) new
        × ((fault ≡ PassFull) ↔ (most_calls ledger.form ledger.clients ≤ length new.made))
        × (ledger.form ≡ Lean → fault ≡ PassFull)

module _ {K V F : Type 0} (same_key : K → K → Bool) (code : K → ℕ) (same_value : V → V → Bool)
    (remapped : F → K → Option V → Option V) (merged : F → V → V → Option V) (ledger : LedgerView K V) where
  -- a bin showed all calls so far
  abbrev pub IsVisited : VisitView K V → PassView K V F → PassView K V F → Type 0
  IsVisited v old new = HasSeen same_key (after same_value remapped merged) ledger old new
      × IsVisit same_key code ledger new.seen v

module _ {G K V F : Type 0} (step : G → Bor K → Bor V → V → G → Type 0) (same_key : K → K → Bool) (code : K → ℕ)
    (same_value : V → V → Bool) (remapped : F → K → Option V → Option V) (merged : F → V → V → Option V)
    (ledger : LedgerView K V) where
  -- a bin after the other showed all calls so far, and then the values at its keys were changed
  abbrev pub AreReplacedIn : List (VisitView K V) → G × ℕ → PassView K V F → G × ℕ → PassView K V F → Type 0
  AreReplacedIn [] p old q new = (q ≡ p) × (new ≡ old)
  AreReplacedIn (v ∷ vs) p old q new = (seen : PassView K V F) × (j : G × ℕ) × (mid : PassView K V F)
      × IsVisited same_key code same_value remapped merged ledger v old seen
      × AreReplaced step same_key same_value remapped merged ledger v.entries p seen j mid × AreReplacedIn vs j mid q new

  -- all bins of a table of some size, in walk order: so many values were replaced
  abbrev pub IsReplaced : G → PassView K V F → ℕ → PassView K V F → Type 0
  IsReplaced f old count new = (n : ℕ) × (visits : List (VisitView K V)) × (last : G)
      × IsWalk n (classes_of_visits visits) × AreReplacedIn visits (f, 0) old (last, count) new

  -- a walk that was to go on at a class stopped at the first bin of it, which could not be shown, or at one of its keys
  abbrev pub HasStopped : Fault → ClassView → G × ℕ → PassView K V F → ℕ → PassView K V F → Type 0
  HasStopped fault next p old count new = ((fault ≡ NoMemory) × (count ≡ p.1) × HasSeenMore old new)
      ⊎ ((v : VisitView K V) × (seen : PassView K V F) × IsFirstOf next v.class
      × IsVisited same_key code same_value remapped merged ledger v old seen
      × HasStoppedAmong step same_key same_value remapped merged ledger v.entries fault p seen count new)

  -- so many values were replaced in bins of a walk, and then it stopped at the bin that was next
  abbrev pub IsStopped : Fault → G → PassView K V F → ℕ → PassView K V F → Type 0
  IsStopped fault f old count new = (n : ℕ) × (next : ClassView) × (visits : List (VisitView K V)) × (j : G × ℕ)
      × (mid : PassView K V F) × HasComeTo n (Some next) (classes_of_visits visits) × AreReplacedIn visits (f, 0) old j mid
      × HasStopped fault next j mid count new
