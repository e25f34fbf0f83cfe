-- What a walk shows: the entries of each bin, one bin after the other.
use Rattle.std.specs.Prelude.{◌≡◌, ℕ, ◌≤◌, Bool, true, Option, List, [], ◌∷◌, All, map, flat_map}
use Rattle.hashkeys.specs.Classes.{ClassView, is_of}
use Rattle.bin_history.specs.Entries.{lookup, HasDistinctKeys, replay}
use Rattle.bin_history.specs.Lawful.{BinView}
use Rattle.bin_history.specs.Part.{part_of_entries, part_of_records}
use Rattle.bin_history.specs.declared.call.Call.{Call}
use Rattle.bin_history.specs.Records.{RecordView}
use Rattle.count_ledger.specs.Fronts.{HasSeen}
use Rattle.count_ledger.specs.Views.{LedgerView, PassView, RoleView}
use Rattle.bin_layout.specs.BinsWithRoles.{IsBinWithRole}
use Rattle.bin_layout.specs.Walks.{IsWalk}
use Rattle.chm.specs.Views.{MapView, opening_in, bins_of}

-- a visit: the class of a bin, and its entries
pub record VisitView (K V : Type 0) : Type 0 where
  pub class : ClassView
  pub entries : List (K × V)

abbrev pub classes_of_visits : {K V : Type 0} → List (VisitView K V) → List ClassView
classes_of_visits visits = map (λ v. v.class) visits

-- all that visits show
abbrev pub shown_by : {K V : Type 0} → List (VisitView K V) → List (K × V)
shown_by visits = flat_map (λ v. v.entries) visits

module _ {K V F : Type 0} (same_key : K → K → Bool) (code : K → ℕ) where
  -- the entries are of keys of the class, each once, and are the part in the class of what the calls of a front made of
  -- the opening map
  pub record IsVisit (ledger : LedgerView K V) (front : List (RecordView K V F)) (v : VisitView K V) : Type 0 where
    pub distinct : HasDistinctKeys same_key v.entries
    pub of_class : All (λ e. is_of code ledger.salt v.class e.0 ≡ true) v.entries
    pub entries : v.entries ≡ part_of_entries (is_of code ledger.salt v.class) (replay same_key ledger.opening front)

module _ {K V F : Type 0} (same_key : K → K → Bool) (code : K → ℕ) (after : Call K V F → Option V → Option V) where
  -- a pass visited bins one after the other, and saw all calls so far at each: a visit shows a front, which begins with
  -- all that the pass had seen before and with the front of each visit before
  abbrev pub AreVisited : LedgerView K V → PassView K V F → List (VisitView K V) → PassView K V F → Type 0
  AreVisited ledger old [] new = new ≡ old
  AreVisited ledger old (v ∷ vs) new = (mid : PassView K V F) × HasSeen same_key after ledger old mid
      × IsVisit same_key code ledger mid.seen v × AreVisited ledger mid vs new

  -- visits of a whole table that opened with n bins: in walk order, and every hash is of one of them
  pub record AreVisits (n : ℕ) (ledger : LedgerView K V) (old : PassView K V F) (visits : List (VisitView K V))
      (new : PassView K V F) : Type 0 where
    pub visited : AreVisited ledger old visits new
    pub walk : IsWalk n (classes_of_visits visits)

-- the entries are what the client's own calls made of the opening map's part
abbrev pub IsOwn : {K V F : Type 0} → (K → K → Bool) → (K → ℕ) → LedgerView K V → PassView K V F →
    VisitView K V → Type 0
IsOwn same_key code ledger pass v = v.entries ≡ replay same_key (opening_in code ledger v.class)
    (part_of_records (is_of code ledger.salt v.class) pass.made)

-- a bin of the map for the key's hash, which is lawful and agrees with a role of the map's ledger, has this value at
-- the key
abbrev pub IsShown : {K V F : Type 0} → (K → K → Bool) → (K → ℕ) → (Call K V F → Option V → Option V) → MapView K V →
    K → Option V → Type 0
IsShown {K} {V} {F} same_key code after map key value =
    (b : BinView K V F) × (r : RoleView K V F) × IsBinWithRole same_key code after (bins_of map) b r
    × (is_of code map.ledger.salt b.class key ≡ true)
    × (value ≡ lookup same_key b.entries key)
