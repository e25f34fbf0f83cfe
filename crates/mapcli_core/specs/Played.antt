-- What the calls of the clients do to a map.
use Rattle.std.specs.Prelude.{◌≡◌, ℕ, ℤ, ◌<◌, ◌≤◌, All, IfErr, MatchResult, Result, List, [], length, map}
use Rattle.std.specs.Prelude.{slice_index_or}
use Rattle.std.specs.List.{zip}
use Rattle.std.specs.declared.vec.Vec.{Vec}
use Rattle.bin_history.specs.Records.{RecordView}
use Rattle.bin_history.specs.declared.call.Reply.{Reply}
use Rattle.chm.specs.Headline.{QuietView, entries_of}
use Rattle.bin_history.specs.Limits.{most_recorded_calls}
use Rattle.bin_history.specs.declared.form.Form.TheVariants.{Recorded}
use Rattle.chm.specs.declared.fault.Fault.{Fault}
use Rattle.chm.specs.declared.fault.Fault.TheVariants.{NoMemory}
use Rattle.count_ledger.specs.Opening.{lists_of}
use Rattle.count_ledger.specs.Views.{PassView}
use Rattle.script.specs.Grammar.{ScriptCall}
use Rattle.script.specs.declared.function.Function.{Function}
use Rattle.mapcli_core.specs.Outcomes.{Outcome, call_and_reply}

abbrev pub ScriptRecord : Type 0
ScriptRecord = RecordView (List ℕ) ℤ Function

abbrev pub ScriptPass : Type 0
ScriptPass = PassView (List ℕ) ℤ Function

abbrev pub ScriptQuiet : Type 0
ScriptQuiet = QuietView (List ℕ) ℤ Function

-- the records are of just these calls, in their order, and replied this
abbrev pub HasMade : List ScriptCall → List (Reply ℤ) → List ScriptRecord → Type 0
HasMade calls replies made = (map call_and_reply made ≡ zip calls replies) × (length replies ≡ length calls)

-- no block has more calls than a recorded map's pass can make
abbrev pub AreShort : {X Y : Type 0} → Vec (Vec ScriptCall X) Y → Type 0
AreShort blocks = All (λ b. length b ≤ most_recorded_calls) (lists_of blocks)

-- a client has replies, or was refused for want of memory
abbrev pub IsAnswerOfClient : {A : Type 0} → Result (Vec (Reply ℤ) A) Fault → Type 0
IsAnswerOfClient answer = IfErr answer (λ fault. fault ≡ NoMemory)

-- the client made the calls of its block, where its pass had made none, and answers their replies, or one was refused
-- for want of memory
pub record HasPlayed {X Y : Type 0} (blocks : Vec (Vec ScriptCall X) Y) (before after : ScriptPass)
    (answer : Result (Vec (Reply ℤ) X) Fault) : Type 0 where
  pub client : after.client ≡ before.client
  pub made : before.made ≡ [] → before.client < length blocks.items → MatchResult answer
      (λ replies. HasMade (slice_index_or (lists_of blocks) before.client []) replies.items after.made)
      (λ fault. fault ≡ NoMemory)

-- client after client, the passes made the calls of the blocks, with these replies
pub record ArePlayed (blocks : List (List ScriptCall)) (replies : List (List (Reply ℤ)))
    (passes : List ScriptPass) : Type 0 where
  pub as_many : length passes ≡ length blocks
  pub answered : map length replies ≡ map length blocks
  pub clients : (c : ℕ) (p : ScriptPass) → c < length blocks → (slice_index_or passes c p).client ≡ c
  pub made : (c : ℕ) (p : ScriptPass) → c < length blocks →
      HasMade (slice_index_or blocks c []) (slice_index_or replies c []) (slice_index_or passes c p).made

-- the outcome of replies and a closed map
abbrev pub outcome_of : {X Y : Type 0} → Vec (Vec (Reply ℤ) X) Y → ScriptQuiet → Outcome
outcome_of replies q = record { replies = lists_of replies; pairs = entries_of q.bins }
