-- What a clear did.
use Rattle.std.specs.Prelude.{◌≡◌, ◌≢◌, negsuc, ℕ, Bool, true, Option, List, [], ◌∷◌, ◌++◌, All}
use Rattle.hashkeys.specs.Classes.{ClassView, is_of}
use Rattle.hashkeys.specs.declared.hashing.Salt.{Salt}
use Rattle.bin_history.specs.Calls.{key_of}
use Rattle.bin_history.specs.Deltas.{delta}
use Rattle.bin_history.specs.Entries.{replay}
use Rattle.bin_history.specs.Part.{part_of_entries, part_of_records}
use Rattle.bin_history.specs.declared.call.Call.{Call}
use Rattle.bin_history.specs.declared.call.Call.TheVariants.{Remove}
use Rattle.bin_history.specs.Records.{RecordView}
use Rattle.count_ledger.specs.Fronts.{BeginsWith, IsFront}
use Rattle.count_ledger.specs.Views.{LedgerView, PassView}
use Rattle.bin_layout.specs.Walks.{IsWalk}
use Rattle.chm.specs.Views.{opening_in}
use Rattle.chm.specs.Visits.{VisitView, IsVisit}

-- a call that took a key away
pub record IsRemoval {K V F : Type 0} (r : RecordView K V F) : Type 0 where
  pub call_is : r.call ≡ Remove (key_of r.call)
  pub took : delta r ≡ negsuc 0

-- the pass made these calls more, and has then seen more
pub record HasMade {K V F : Type 0} (rs : List (RecordView K V F)) (old new : PassView K V F) : Type 0 where
  pub seen : BeginsWith new.seen old.seen
  pub pass : new ≡ record old { made = old.made ++ rs; seen = new.seen }

-- the pass made some more calls, each of which took a key away
abbrev pub HasRemoved : {K V F : Type 0} → PassView K V F → PassView K V F → Type 0
HasRemoved {K} {V} {F} old new = (removals : List (RecordView K V F)) × All IsRemoval removals
    × HasMade removals old new

-- the same of keys of a class
abbrev pub HasRemovedIn : {K V F : Type 0} → (K → ℕ) → Salt → ClassView → PassView K V F → PassView K V F → Type 0
HasRemovedIn {K} {V} {F} code salt class old new =
    (removals : List (RecordView K V F)) × All IsRemoval removals
    × All (λ r. is_of code salt class (key_of r.call) ≡ true) removals
    × HasMade removals old new

module _ {K V F : Type 0} (same_key : K → K → Bool) (code : K → ℕ) (after : Call K V F → Option V → Option V) where
  -- the calls that a pass has seen left no pair in the class
  pub record IsEmptyIn (ledger : LedgerView K V) (pass : PassView K V F) (class : ClassView) : Type 0 where
    pub front : IsFront same_key after ledger pass pass.seen
    pub empty : part_of_entries (is_of code ledger.salt class) (replay same_key ledger.opening pass.seen) ≡ []

  -- bins of these classes were emptied one after the other, each by removes of its keys, until the pass saw it empty
  abbrev pub AreCleared : LedgerView K V → PassView K V F → List ClassView → PassView K V F → Type 0
  AreCleared ledger old [] new = new ≡ old
  AreCleared ledger old (c ∷ cs) new = (mid : PassView K V F) × HasRemovedIn code ledger.salt c old mid
      × IsEmptyIn ledger mid c × AreCleared ledger mid cs new

  -- the same of all bins of a table, in walk order
  abbrev pub IsCleared : ℕ → LedgerView K V → PassView K V F → PassView K V F → Type 0
  IsCleared n ledger old new = (classes : List ClassView) × IsWalk n classes × AreCleared ledger old classes new

  -- a bin that was met has entries left
  abbrev pub HasLeft : LedgerView K V → PassView K V F → Type 0
  HasLeft ledger pass = (v : VisitView K V) × IsFront same_key after ledger pass pass.seen
      × IsVisit same_key code ledger pass.seen v × (v.entries ≢ [])

-- a pair is left: by the client's own calls, a class has one
abbrev pub HasOwnLeft : {K V F : Type 0} → (K → K → Bool) → (K → ℕ) → LedgerView K V → PassView K V F → Type 0
HasOwnLeft same_key code ledger pass = (c : ClassView)
    × (replay same_key (opening_in code ledger c) (part_of_records (is_of code ledger.salt c) pass.made) ≢ [])

-- nothing is left: by the client's own calls, no class of a walk has a pair
abbrev pub IsEmptied : {K V F : Type 0} → (K → K → Bool) → (K → ℕ) → ℕ → LedgerView K V → PassView K V F → Type 0
IsEmptied same_key code n ledger pass =
    (classes : List ClassView) × IsWalk n classes
    × All (λ c. replay same_key (opening_in code ledger c) (part_of_records (is_of code ledger.salt c) pass.made) ≡ [])
    classes
