-- Calls of which nothing can be refused.
use Rattle.std.specs.Prelude.{◌≡◌, ◌<◌, Bool, true, false, Option, None, is_some, is_none, List, [], length}
pub use Rattle.bin_entries.specs.Copies.{IsNeverRefused}
pub use Rattle.bin_entries.specs.Keys.{IsKept}
use Rattle.bin_history.specs.Entries.{lookup}
use Rattle.bin_history.specs.Lawful.{BinView}
use Rattle.bin_history.specs.Limits.{most_records}
use Rattle.bin_history.specs.Ops.{may_add}
use Rattle.bin_history.specs.declared.call.Call.{Call}
use Rattle.bin_history.specs.declared.call.Call.TheVariants.{Get, Contains, Put, PutIfAbsent, Remove, RemoveIf, Replace}
use Rattle.bin_history.specs.declared.call.Call.TheVariants.{ReplaceIf, ComputeIfAbsent}
use Rattle.bin_history.specs.declared.call.Call.TheVariants.{ComputeIfPresent, Compute, Merge}
use Rattle.bin_history.specs.declared.form.Form.TheVariants.{Recorded}
use Rattle.bin_history.specs.declared.op.Op.{Op}
use Rattle.bin_history.specs.declared.op.Op.TheVariants as op

-- a call without its key
abbrev pub op_of : {K V F : Type 0} → Call K V F → Op V F
op_of (Get _) = op.Get
op_of (Contains _) = op.Contains
op_of (Put _ v) = op.Put v
op_of (PutIfAbsent _ v) = op.PutIfAbsent v
op_of (Remove _) = op.Remove
op_of (RemoveIf _ v) = op.RemoveIf v
op_of (Replace _ v) = op.Replace v
op_of (ReplaceIf _ old new) = op.ReplaceIf old new
op_of (ComputeIfAbsent _ f) = op.ComputeIfAbsent f
op_of (ComputeIfPresent _ f) = op.ComputeIfPresent f
op_of (Compute _ f) = op.Compute f
op_of (Merge _ v f) = op.Merge v f

-- whether the call asks its function, by the value before it
abbrev pub asks : {V F : Type 0} → Op V F → Option V → Bool
asks op.Get before = false
asks op.Contains before = false
asks (op.Put _) before = false
asks (op.PutIfAbsent _) before = false
asks op.Remove before = false
asks (op.RemoveIf _) before = false
asks (op.Replace _) before = false
asks (op.ReplaceIf _ _) before = false
asks (op.ComputeIfAbsent _) before = is_none before
asks (op.ComputeIfPresent _) before = is_some before
asks (op.Compute _) before = true
asks (op.Merge _ _) before = is_some before

-- whether the call copies no value and asks no function
abbrev pub copies_none : {V F : Type 0} → Op V F → Bool
copies_none op.Get = false
copies_none op.Contains = true
copies_none (op.Put _) = true
copies_none (op.PutIfAbsent _) = false
copies_none op.Remove = true
copies_none (op.RemoveIf _) = true
copies_none (op.Replace _) = true
copies_none (op.ReplaceIf _ _) = true
copies_none (op.ComputeIfAbsent _) = false
copies_none (op.ComputeIfPresent _) = false
copies_none (op.Compute _) = false
copies_none (op.Merge _ _) = false

-- nothing that the call on the key needs of this bin can be refused: no copy is, it asks no function, and there is room
pub record IsSure {K V F : Type 0} (same_key : K → K → Bool) (key_copies : K → Type 0) (value_copies : V → Type 0)
    (b : BinView K V F) (k : K) (op : Op V F) :
    Type 0 where
  pub key : key_copies k
  pub values : IsNeverRefused value_copies
  pub asks_none : asks op (lookup same_key b.entries k) ≡ false
  pub record_room : b.form ≡ Recorded → (length b.records < most_records) × (0 < b.record_room)
  pub entry_room : lookup same_key b.entries k ≡ None → may_add op ≡ true → 0 < b.entry_room

-- a call on a key of a lean bin needs no memory: no copy of a value is refused where it makes one, it asks no function,
-- and where it adds an entry this is the first, and its key is kept without a copy that may be refused
pub record IsSpared {K V F : Type 0} (same_key : K → K → Bool) (key_kept : Type 0) (value_copies : V → Type 0)
    (entries : List (K × V)) (k : K) (op : Op V F) : Type 0 where
  pub values : copies_none op ≡ false → IsNeverRefused value_copies
  pub asks_none : asks op (lookup same_key entries k) ≡ false
  pub adds : lookup same_key entries k ≡ None → may_add op ≡ true → key_kept × (entries ≡ [])
