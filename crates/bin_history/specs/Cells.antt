-- One key by itself, as a cell of one thread.
use Rattle.std.specs.Prelude.{◌≡◌, Bool, Option, List, [], ◌∷◌, filter}
use Rattle.bin_history.specs.Calls.{key_of}
use Rattle.bin_history.specs.declared.call.Call.{Call}
use Rattle.bin_history.specs.Records.{RecordView}

module _ {K V F : Type 0} (same_key : K → K → Bool) where
  -- the records on a key, in order
  abbrev pub records_on : K → List (RecordView K V F) → List (RecordView K V F)
  records_on k rs = filter (λ r. same_key (key_of r.call) k) rs

module _ {K V F : Type 0} where
  -- the value of the cell after records on it
  abbrev pub cell_after : Option V → List (RecordView K V F) → Option V
  cell_after cell [] = cell
  cell_after cell (r ∷ rs) = cell_after r.after rs

module _ {K V F : Type 0} (after : Call K V F → Option V → Option V) where
  -- each record finds what the one before it left, and leaves what its call makes of it
  abbrev pub IsCellHistory : Option V → List (RecordView K V F) → Type 0
  IsCellHistory cell [] = Unit {0}
  IsCellHistory cell (r ∷ rs) = (r.before ≡ cell) × (r.after ≡ after r.call r.before) × IsCellHistory r.after rs
