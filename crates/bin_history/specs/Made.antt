-- A call that was made on a bin.
use Rattle.std.specs.Prelude.{◌≡◌, ℕ, Bool, Option, [], ◌∷◌}
use Rattle.bin_history.specs.Calls.{key_of, after, reply}
use Rattle.bin_history.specs.Entries.{lookup, store}
use Rattle.bin_history.specs.Histories.{GoesOn}
use Rattle.bin_history.specs.Lawful.{BinView}
use Rattle.bin_history.specs.Records.{RecordView}
use Rattle.bin_history.specs.declared.call.Call.{Call}
use Rattle.bin_history.specs.declared.call.Reply.{Reply}

module _ {K V F : Type 0} (same_key : K → K → Bool) (same_value : V → V → Bool) (remapped : F → K → Option V → Option V)
    (merged : F → V → V → Option V) where
  -- by this call of the client, after so many others of it, a bin became another: the record tells which value the call
  -- found at its key and left there, the answer is its reply, and the bin's history goes on by the record
  pub record IsMadeOn (client ordinal : ℕ) (call : Call K V F) (b c : BinView K V F) (answer : Reply V)
      (r : RecordView K V F) : Type 0 where
    pub client_is : r.client ≡ client
    pub ordinal_is : r.ordinal ≡ ordinal
    pub call_is : r.call ≡ call
    pub found : r.before ≡ lookup same_key b.entries (key_of call)
    pub left : r.after ≡ after same_value remapped merged call r.before
    pub replied : answer ≡ reply same_value call r.before r.after
    pub stored : c.entries ≡ store same_key b.entries (key_of call) r.after
    pub history : GoesOn same_key (after same_value remapped merged) b (r ∷ []) c
