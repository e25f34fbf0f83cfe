-- A call that is ready to be made on a bin.
use Rattle.std.specs.Prelude.{◌≡◌, ℕ, ◌<◌, Bool, true, Option, Some, None, option_map, List, length, take, drop, ◌⊎◌}
use Rattle.hashkeys.specs.Classes.{is_of}
use Rattle.bin_history.specs.Calls.{key_of, after, reply}
use Rattle.bin_history.specs.Entries.{lookup, store, replay}
use Rattle.bin_history.specs.Changes.{reply_of, entries_after, taken_from, HasIndex, Fits}
use Rattle.bin_history.specs.Limits.{folded_records, most_records}
use Rattle.bin_history.specs.Ops.{call_on}
use Rattle.bin_history.specs.Lawful.{BinView}
use Rattle.bin_history.specs.declared.call.Call.{Call}
use Rattle.bin_history.specs.declared.call.Call.TheVariants.{Put, Remove}
use Rattle.bin_history.specs.Records.{RecordView}
use Rattle.bin_history.specs.declared.effect.Answer.{Answer}
use Rattle.bin_history.specs.declared.ready.Kept.{Kept}
use Rattle.bin_history.specs.declared.seen.Seen.{Seen}
use Rattle.bin_history.specs.declared.seen.SeenCall.{SeenCall}
use Rattle.bin_history.specs.declared.seen.SeenCall.TheVariants.{Whole, Parts, PutThere}
use Rattle.std.specs.declared.snapshot.Snapshot.{Snapshot}
use Rattle.bin_history.specs.declared.change.Change.{Change}

-- a call whose effects are worked out, as contracts see it
pub record ReadyView (K V F : Type 0) : Type 0 where
  pub call : Call K V F
  pub before : Option V
  pub after : Option V
  pub answer : Answer V
  pub change : Change K V
  pub kept : Kept K V F

-- a call that was seen
abbrev pub call_seen : {K V F : Type 0} → SeenCall K V F → Call K V F
call_seen (Whole call) = call.value
call_seen (Parts k op) = call_on k.value op.value
call_seen (PutThere k value) = Put k.value value.value

-- the call by which a key gets this value, or none
abbrev pub call_to : {K V F : Type 0} → K → Option V → Call K V F
call_to k None = Remove k
call_to k (Some value) = Put k value

-- a value that was seen, if there was one
abbrev pub value_seen : {V : Type 0} → Option (Snapshot V) → Option V
value_seen seen = option_map (λ x. x.value) seen

-- what was seen of a call is this call, and these values before and after it
pub record IsSeen {K V F : Type 0} (seen : Seen K V F) (call : Call K V F) (before after : Option V) : Type 0 where
  pub call_is : call_seen seen.call ≡ call
  pub before_is : value_seen seen.before ≡ before
  pub after_is : value_seen seen.after ≡ after

-- what a recorded bin keeps of a call
abbrev pub kept_of : {K V F : Type 0} → Call K V F → Option V → Option V → Kept K V F
kept_of call before after = record { call = call; before = before; after = after }

module _ {K V F : Type 0} (same_key : K → K → Bool) (same_value : V → V → Bool) (remapped : F → K → Option V → Option V)
    (merged : F → V → V → Option V) where
  -- all that the call does to these entries is worked out
  pub record IsWorkedOut (ready : ReadyView K V F) (entries : List (K × V)) : Type 0 where
    pub before_is : ready.before ≡ lookup same_key entries (key_of ready.call)
    pub after_is : ready.after ≡ after same_value remapped merged ready.call ready.before
    pub reply_is : reply_of ready.answer (taken_from entries ready.change)
        ≡ reply same_value ready.call ready.before ready.after
    pub has_index : HasIndex entries ready.change
    pub change_is : entries_after entries ready.change ≡ store same_key entries (key_of ready.call) ready.after

-- there is room for the record of the call, and for the entry that it adds, if it adds one
pub record HasMemoryFor {K V F : Type 0} (ready : ReadyView K V F) (b : BinView K V F) : Type 0 where
  pub record_room : 0 < b.record_room
  pub entry_room : Fits b.entry_room ready.change
  pub few : length b.records < most_records

module _ {K V F : Type 0} (same_key : K → K → Bool) (code : K → ℕ) (same_value : V → V → Bool) (remapped : F → K →
    Option V → Option V)
    (merged : F → V → V → Option V) where
  -- the call was prepared on this bin, and nothing was applied since
  pub record IsPrepared (ready : ReadyView K V F) (b : BinView K V F) : Type 0 where
    pub worked_out : IsWorkedOut same_key same_value remapped merged ready b.entries
    pub room : HasMemoryFor ready b
    pub kept : ready.kept ≡ kept_of ready.call ready.before ready.after
    pub of_class : is_of code b.salt b.class (key_of ready.call) ≡ true

-- the record of a call that is ready
abbrev pub record_of : {K V F : Type 0} → ℕ → ℕ → ReadyView K V F → RecordView K V F
record_of client ordinal ready = record {
  client = client;
  ordinal = ordinal;
  call = ready.call;
  before = ready.before;
  after = ready.after;
}

-- base and records as they were
pub record KeepsRecords {K V F : Type 0} (b c : BinView K V F) : Type 0 where
  pub base : c.base ≡ b.base
  pub records : c.records ≡ b.records

-- the oldest 512 of 1,024 records folded into the base
pub record FoldsRecords {K V F : Type 0} (same_key : K → K → Bool) (b c : BinView K V F) : Type 0 where
  pub full : length b.records ≡ most_records
  pub base : c.base ≡ replay same_key b.base (take folded_records b.records)
  pub records : c.records ≡ drop folded_records b.records

abbrev pub KeepsOrFolds : {K V F : Type 0} → (K → K → Bool) → BinView K V F → BinView K V F → Type 0
KeepsOrFolds same_key b c = KeepsRecords b c ⊎ FoldsRecords same_key b c
