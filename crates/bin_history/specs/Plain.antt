-- A one-thread map, by records of calls on it.
use Rattle.std.specs.Prelude.{◌≡◌, Bool, Option, cond, List, [], ◌∷◌}
use Rattle.bin_history.specs.Calls.{key_of}
use Rattle.bin_history.specs.declared.call.Call.{Call}
use Rattle.bin_history.specs.Records.{RecordView}

module _ {K V F : Type 0} (same_key : K → K → Bool) where
  -- the map after a record
  abbrev pub step : (K → Option V) → RecordView K V F → K → Option V
  step map r k = cond (same_key (key_of r.call) k) r.after (map k)

  -- the map after records
  abbrev pub run : (K → Option V) → List (RecordView K V F) → K → Option V
  run map [] = map
  run map (r ∷ rs) = run (step map r) rs

  module _ (after : Call K V F → Option V → Option V) where
    -- the record is of a call on this map
    abbrev pub IsLegalStep : (K → Option V) → RecordView K V F → Type 0
    IsLegalStep map r = (r.before ≡ map (key_of r.call)) × (r.after ≡ after r.call r.before)

    -- each record is of a call on the map that those before it leave
    abbrev pub IsLegal : (K → Option V) → List (RecordView K V F) → Type 0
    IsLegal map [] = Unit {0}
    IsLegal map (r ∷ rs) = IsLegalStep map r × IsLegal (step map r) rs
