-- What a retain asked, what it removed, and what it kept.
use Rattle.std.specs.Prelude.{◌≡◌, ℕ, suc, ◌<◌, ◌≤◌, ◌+◌, Bool, true, false, cond, Option, Some, List, [], ◌∷◌, ◌++◌}
use Rattle.std.specs.Prelude.{All, length}
use Rattle.std.specs.Borrow.{Bor}
use Rattle.std.specs.List.{AllZip, FoldsTo}
use Rattle.hashkeys.specs.Classes.{ClassView, is_of}
use Rattle.bin_history.specs.Calls.{key_of}
use Rattle.bin_history.specs.Entries.{replay}
use Rattle.bin_history.specs.Part.{part_of_entries}
use Rattle.bin_history.specs.declared.call.Call.{Call}
use Rattle.bin_history.specs.Records.{RecordView}
use Rattle.count_ledger.specs.Fronts.{IsFront}
use Rattle.count_ledger.specs.Limits.{most_calls}
use Rattle.count_ledger.specs.Views.{LedgerView, PassView}
use Rattle.bin_layout.specs.Walks.{IsWalk}
use Rattle.part_walks.specs.Parts.{HasComeTo, IsFirstOf}
use Rattle.chm.specs.Cleared.{HasMade, IsRemoval}
use Rattle.chm.specs.Visits.{IsVisit}
use Rattle.chm.specs.declared.fault.Fault.{Fault}
use Rattle.chm.specs.declared.fault.Fault.TheVariants.{NoMemory, PassFull}

-- the entry is one of these
abbrev pub HasEntry : {E : Type 0} → List E → E → Type 0
HasEntry {E} entries e = (front rest : List E) × (entries ≡ front ++ e ∷ rest)

module _ {K V : Type 0} where
  -- of entries, each with what the function returned for it: those for which it returned true, in order
  abbrev pub kept_of : List ((K × V) × Bool) → List (K × V)
  kept_of [] = []
  kept_of (t ∷ ts) = cond t.1 (t.0 ∷ kept_of ts) (kept_of ts)

  -- and those for which it returned false
  abbrev pub removed_of : List ((K × V) × Bool) → List (K × V)
  removed_of [] = []
  removed_of (t ∷ ts) = cond t.1 (removed_of ts) (t.0 ∷ removed_of ts)

  -- the call removed the entry
  pub record IsRemovalOf {F : Type 0} (e : K × V) (r : RecordView K V F) : Type 0 where
    pub removal : IsRemoval r
    pub key : key_of r.call ≡ e.0
    pub before : r.before ≡ Some e.1

module _ {G K V : Type 0} (step : G → Bor K → Bor V → Bool → G → Type 0) where
  -- the function, in one state, returned this for references to the key and the value of an entry, and came to another
  abbrev pub SaysAt : G → K × V → Bool → G → Type 0
  SaysAt p e answer q =
      (key : Bor K) × (value : Bor V) × (key.now ≡ e.0) × (value.now ≡ e.1) × step p key value answer q

  -- it was called once for each of these entries, in order, and returned true
  abbrev pub HasKeptAll : G → List (K × V) → G → Type 0
  HasKeptAll p es q = FoldsTo (λ i e j. SaysAt i e true j) p es q

  -- of the entries from a place on, it was called once for each of those with such a key, in order, until it returned
  -- false for this one, at this place
  pub record IsFoundBehind (test : K → Bool) (p q : G) (past place : ℕ) (entries : List (K × V)) (e : K × V) : Type 0
    where
      pub mid : List (K × V)
      pub rest : List (K × V)
      pub parts : entries ≡ mid ++ e ∷ rest
      pub place_is : place ≡ past + length mid
      pub asked_at : G
      pub kept : HasKeptAll p (part_of_entries test mid) asked_at
      pub said : SaysAt asked_at e false q
      pub of : test e.0 ≡ true

  -- it was called for an entry when the pass had made fewer calls than the most; an entry for which it returns false is
  -- removed by one more
  abbrev pub IsAsked : ℕ → G × ℕ → (K × V) × Bool → G × ℕ → Type 0
  IsAsked most p t q = (p.1 < most) × SaysAt p.0 t.0 t.1 q.0 × (q.1 ≡ cond t.1 p.1 (suc p.1))

  module _ {F : Type 0} (code : K → ℕ) (ledger : LedgerView K V) (class : ClassView) where
    -- the function was called once for each of these entries, in order, and returned this for it; each for which it
    -- returned false was removed, by a call of its own, in this order
    pub record HasAsked (turns : List ((K × V) × Bool)) (p : G) (old : PassView K V F) (q : G)
        (new : PassView K V F) : Type 0 where
      pub asked : FoldsTo (IsAsked (most_calls ledger.form ledger.clients)) (p, length old.made) turns
          (q, length new.made)
      pub removals : List (RecordView K V F)
      pub removed : AllZip IsRemovalOf (removed_of turns) removals
      pub of_class : All (λ r. is_of code ledger.salt class (key_of r.call) ≡ true) removals
      pub made : HasMade removals old new

    -- the same of the entries of a bin up to a place, of those whose keys are of the class
    pub record IsSettled (p : G) (old : PassView K V F) (q : G) (new : PassView K V F) (past : ℕ)
        (entries : List (K × V)) : Type 0 where
      pub turns : List ((K × V) × Bool)
      pub asked : HasAsked turns p old q new
      pub front : List (K × V)
      pub rest : List (K × V)
      pub parts : entries ≡ front ++ rest
      pub place : length front ≡ past
      pub kept : part_of_entries (is_of code ledger.salt class) front ≡ kept_of turns

    -- the same of all entries of the class: these are left
    pub record HasKept (p : G) (old : PassView K V F) (q : G) (new : PassView K V F) (entries : List (K × V)) : Type 0
      where
        pub turns : List ((K × V) × Bool)
        pub asked : HasAsked turns p old q new
        pub kept : part_of_entries (is_of code ledger.salt class) entries ≡ kept_of turns

    -- it stopped before the end, where these entries were left: those that it kept, the next one, and those behind it.
    -- Where the pass was full, the function was not called for the next one; for want of memory it was, and returned
    -- false.
    pub record HasStopped (fault : Fault) (p : G) (old : PassView K V F) (q : G) (new : PassView K V F)
        (entries : List (K × V)) : Type 0 where
      pub turns : List ((K × V) × Bool)
      pub last : G
      pub asked : HasAsked turns p old last new
      pub next : K × V
      pub rest : List (K × V)
      pub left : part_of_entries (is_of code ledger.salt class) entries ≡ kept_of turns ++ next ∷ rest
      pub full : fault ≡ PassFull → (q ≡ last) × (most_calls ledger.form ledger.clients ≤ length new.made)
      pub memory : fault ≡ NoMemory →
          (length new.made < most_calls ledger.form ledger.clients) × SaysAt last next false q

  module _ {F : Type 0} (same_key : K → K → Bool) (code : K → ℕ) (after : Call K V F → Option V → Option V)
      (ledger : LedgerView K V) where
    -- the entries of the class, as a front has them that the pass has then seen, are those for which the function
    -- returned true; it was called once for each of them and for each that was removed
    pub record IsRetainedIn (class : ClassView) (p : G) (old : PassView K V F) (q : G) (new : PassView K V F) : Type 0
      where
        pub front : IsFront same_key after ledger new new.seen
        pub kept : HasKept code ledger class p old q new (replay same_key ledger.opening new.seen)

    -- it stopped at an entry of the class
    pub record IsStoppedIn (fault : Fault) (class : ClassView) (p : G) (old : PassView K V F) (q : G)
        (new : PassView K V F) : Type 0 where
      pub front : IsFront same_key after ledger new new.seen
      pub visit : IsVisit same_key code ledger new.seen (record {
        class = class;
        entries = part_of_entries (is_of code ledger.salt class) (replay same_key ledger.opening new.seen);
      })
      pub stopped : HasStopped code ledger class fault p old q new (replay same_key ledger.opening new.seen)

    -- bins of these classes were gone through one after the other
    abbrev pub AreRetained : G → PassView K V F → List ClassView → G → PassView K V F → Type 0
    AreRetained p old [] q new = (q ≡ p) × (new ≡ old)
    AreRetained p old (c ∷ cs) q new = (j : G) × (mid : PassView K V F) × IsRetainedIn c p old j mid
        × AreRetained j mid cs q new

    -- all bins of a table of n, in walk order
    abbrev pub IsRetainedBy : ℕ → G → PassView K V F → G → PassView K V F → Type 0
    IsRetainedBy n p old q new = (classes : List ClassView) × IsWalk n classes × AreRetained p old classes q new

    -- all bins of a table of some size
    abbrev pub IsRetained : G → PassView K V F → G → PassView K V F → Type 0
    IsRetained p old q new = (n : ℕ) × IsRetainedBy n p old q new

    -- a walk that was to go on at a class stopped at the first bin of it
    abbrev pub HasStoppedAt : Fault → ClassView → G → PassView K V F → G → PassView K V F → Type 0
    HasStoppedAt fault next p old q new = (class : ClassView) × IsFirstOf next class
        × IsStoppedIn fault class p old q new

    -- a walk over a table of n went through bins, and stopped at the one that was next
    abbrev pub IsStoppedBy : ℕ → Fault → G → PassView K V F → G → PassView K V F → Type 0
    IsStoppedBy n fault p old q new = (classes : List ClassView) × (next : ClassView) × HasComeTo n (Some next) classes
        × (j : G) × (mid : PassView K V F) × AreRetained p old classes j mid × HasStoppedAt fault next j mid q new

    -- over a table of some size
    abbrev pub IsStopped : Fault → G → PassView K V F → G → PassView K V F → Type 0
    IsStopped fault p old q new = (n : ℕ) × IsStoppedBy n fault p old q new
