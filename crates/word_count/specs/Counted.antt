-- What counting words comes to.
use Rattle.std.specs.Prelude.{◌≡◌, ℕ, ◌<◌, ◌≤◌, Bool, nat_eq, List, [], length, map, All, slice_index_or}
use Rattle.std.specs.Prelude.{Result, OnOk}
use Rattle.std.specs.Cmp.Lexicographic.{pointwise}
use Rattle.std.specs.declared.vec.Vec.{Vec}
use Rattle.bin_history.specs.Calls.{key_of}
use Rattle.bin_history.specs.Entries.{lookup, HasDistinctKeys}
use Rattle.bin_history.specs.Limits.{most_calls}
use Rattle.bin_history.specs.Records.{RecordView}
use Rattle.bin_history.specs.declared.form.Form.TheVariants.{Lean}
use Rattle.count_ledger.specs.Views.{PassView}
use Rattle.chm.specs.declared.fault.Fault.{Fault}
use Rattle.clients.specs.Tallies.{AddsOne, times_in_all, stored_count}
use Rattle.functions.specs.declared.numbers.Add.{Add}

abbrev pub WordRecord : Type 0
WordRecord = RecordView (List ℕ) ℕ Add

abbrev pub WordPass : Type 0
WordPass = PassView (List ℕ) ℕ Add

-- words are compared byte by byte
abbrev pub same_word : List ℕ → List ℕ → Bool
same_word = pointwise nat_eq

-- calls that count these words, in order, of which there are at most so many
pub record HasCounted (most : ℕ) (words : List (List ℕ)) (made : List WordRecord) : Type 0 where
  pub keys : map (λ r. key_of r.call) made ≡ words
  pub ones : All AddsOne made
  pub few : length words ≤ most

-- a client counts at most so many words where each client of a lean map counts one of the parts
abbrev pub most_words : {A : Type 0} → List (Vec (List ℕ) A) → ℕ
most_words parts = most_calls Lean (length parts)

-- a client that had made nothing counted the words of its part, or was refused
pub record HasWorked {A : Type 0} (parts : List (Vec (List ℕ) A)) (old new : WordPass)
    (answer : Result (Unit {0}) Fault) : Type 0 where
  pub client : new.client ≡ old.client
  pub counted : OnOk answer (old.made ≡ [] → (v : Vec (List ℕ) A) → old.client < length parts →
      HasCounted (most_words parts) (slice_index_or parts old.client v).items new.made)

-- each word stands once, with how often it stands in the parts
pub record AreCounts (parts : List (List (List ℕ))) (counts : List (List ℕ × ℕ)) : Type 0 where
  pub distinct : HasDistinctKeys same_word counts
  pub each : (w : List ℕ) → lookup same_word counts w ≡ stored_count (times_in_all same_word w parts)
