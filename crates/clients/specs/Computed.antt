-- Whether a call asked its function, and whether it changed the number of keys.
use Rattle.std.specs.Prelude.{◌≡◌, Bool, true, false, Option, Some, None, [], ◌∷◌, ◌++◌}
use Rattle.bin_history.specs.declared.call.Call.{Call}
use Rattle.bin_history.specs.Records.{RecordView}
use Rattle.bin_history.specs.Sure.{asks, op_of}
use Rattle.count_ledger.specs.Views.{PassView}

-- a call that found the one value at its key and left the other changed the number of keys
abbrev pub changes : {V : Type 0} → Option V → Option V → Bool
changes None None = false
changes None (Some y) = true
changes (Some x) None = true
changes (Some x) (Some y) = false

module _ {K V F : Type 0} where
  -- the pass made the call, and it is told whether the function was asked
  abbrev pub IsTold : Call K V F → PassView K V F → PassView K V F → Bool → Type 0
  IsTold call old new used = (r : RecordView K V F) × (new.made ≡ old.made ++ r ∷ []) × (r.call ≡ call)
      × (used ≡ asks (op_of call) r.before)

  -- whatever call the pass made, it is told whether that changed the number of keys
  abbrev pub IsToldChange : PassView K V F → PassView K V F → Bool → Type 0
  IsToldChange old new changed = (r : RecordView K V F) → new.made ≡ old.made ++ r ∷ []
      → changed ≡ changes r.before r.after
