-- What a pass and a locked bin tell when they meet, and what a call does to the bin.
use Rattle.std.specs.Prelude.{◌≡◌, ℕ, Bool, true, Option, List}
use Rattle.hashkeys.specs.Classes.{is_of}
use Rattle.bin_history.specs.Calls.{after, key_of}
use Rattle.bin_history.specs.Part.{part_of_entries}
use Rattle.bin_history.specs.Plain.{run}
use Rattle.bin_history.specs.Records.{RecordView}
use Rattle.bin_history.specs.declared.call.Reply.{Reply}
use Rattle.bin_history.specs.declared.call.Call.{Call}
use Rattle.count_ledger.specs.Fronts.{IsFront}
use Rattle.count_ledger.specs.Views.{LedgerView, PassView}
use Rattle.bin_history.specs.Entries.{lookup, replay, store}
use Rattle.bin_history.specs.Lawful.{BinView}
use Rattle.chm.specs.Headline.{IsMade}

module _ {K V F : Type 0} (same_key : K → K → Bool) (code : K → ℕ) where
  -- a bin's entries are the part in its class of what the calls of a front made of the opening map: in order, and as a
  -- map
  pub record IsMet (ledger : LedgerView K V) (front : List (RecordView K V F)) (b : BinView K V F) : Type 0 where
    pub entries : b.entries
        ≡ part_of_entries (is_of code ledger.salt b.class) (replay same_key ledger.opening front)
    pub same_map : (k : K) → is_of code ledger.salt b.class k ≡ true →
        lookup same_key b.entries k ≡ run same_key (lookup same_key ledger.opening) front k

module _ {K V F : Type 0} (same_key : K → K → Bool) (code : K → ℕ) (same_value : V → V → Bool) (remapped : F → K →
    Option V → Option V)
    (merged : F → V → V → Option V) where
  -- the pass made the call on a bin, behind a front that it and the bin met, and the bin became another
  abbrev pub IsCalledOn : LedgerView K V → BinView K V F → BinView K V F → Call K V F → PassView K V F →
      PassView K V F → Reply V → Type 0
  IsCalledOn ledger b c call old new answer =
      (front : List (RecordView K V F)) × (r : RecordView K V F)
      × IsFront same_key (after same_value remapped merged) ledger old front
      × IsMade same_value remapped merged call old new answer front r
      × IsMet same_key code ledger front b
      × (r.before ≡ lookup same_key b.entries (key_of call))
      × (c.entries ≡ store same_key b.entries (key_of call) r.after)
