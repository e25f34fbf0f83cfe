-- What C is answered.
use Rattle.std.specs.Prelude.{ℕ, true, false, Option, Some, None, Result, Ok, Err}
use Rattle.bin_history.specs.declared.call.Reply.{Reply}
use Rattle.bin_history.specs.declared.call.Reply.TheVariants.{Value, Truth}
use Rattle.chm.specs.declared.fault.Fault.{Fault}
use Rattle.chm.specs.declared.fault.Fault.TheVariants.{NoMemory, BadCapacity, BadClients}
use Rattle.chm.specs.declared.fault.Fault.TheVariants.{PassFull, NoClient, PassMissing, BinMissing}
use Rattle.facing_maps.specs.Statuses.{facing_bad_capacity, facing_bad_clients, facing_bin_missing, facing_busy, facing_client_full}
use Rattle.facing_maps.specs.Statuses.{facing_client_out, facing_done, facing_no_client, facing_no_memory, facing_wrong_handle}
use Rattle.facing_maps.specs.declared.status.FacingAnswer.{FacingAnswer}

-- the status of a refusal
abbrev pub code_of : Fault → ℕ
code_of NoMemory = facing_no_memory
code_of PassFull = facing_client_full
code_of BadCapacity = facing_bad_capacity
code_of BadClients = facing_bad_clients
code_of PassMissing = facing_client_out
code_of BinMissing = facing_bin_missing
code_of NoClient = facing_no_client

-- what was answered; what stands for something else answers nothing, and is a wrong handle
abbrev pub answered : {T : Type 0} → Option (Result T ℕ) → Result T ℕ
answered (Some answer) = answer
answered None = Err facing_wrong_handle

-- what came of a call that was to be tried: its reply, or why it was refused, or nothing where another was in its way;
-- or the status for which it was not tried
abbrev pub CallOutcome : Type 0 → Type 0
CallOutcome V = Result (Option (Result (Reply V) Fault)) ℕ

-- the status of a call
abbrev pub status_of : {V : Type 0} → CallOutcome V → ℕ
status_of (Ok (Some (Ok _))) = facing_done
status_of (Ok (Some (Err fault))) = code_of fault
status_of (Ok None) = facing_busy
status_of (Err status) = status

-- a value, if there is one, as it is told
abbrev pub found_by : {V : Type 0} → (V → ℕ) → Option V → FacingAnswer
found_by told (Some value) = record { found = 1; value = told value }
found_by told None = record { found = 0; value = 0 }

-- the answer that a reply is: a value, if there is one, or whether it was so
abbrev pub reply_by : {V : Type 0} → (V → ℕ) → Reply V → FacingAnswer
reply_by told (Value value) = found_by told value
reply_by told (Truth true) = record { found = 1; value = 0 }
reply_by told (Truth false) = record { found = 0; value = 0 }

-- the answer of a call that was made; of another it is what was there before
abbrev pub answer_by : {V : Type 0} → (V → ℕ) → CallOutcome V → FacingAnswer → FacingAnswer
answer_by told (Ok (Some (Ok reply))) before = reply_by told reply
answer_by told (Ok (Some (Err _))) before = before
answer_by told (Ok None) before = before
answer_by told (Err _) before = before
