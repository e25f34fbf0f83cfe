-- What a run of a script may come to.
use Rattle.std.specs.Prelude.{◌≡◌, ℕ, ℤ, ◌<◌, Bool, nat_eq, Option, None, List, [], length, All, map, filter}
use Rattle.std.specs.Prelude.{slice_index_or}
use Rattle.std.specs.List.{zip}
use Rattle.std.specs.Ordering.{int_eq}
use Rattle.std.specs.Cmp.Lexicographic.{pointwise}
use Rattle.bin_history.specs.Calls.{key_of, after, reply}
use Rattle.bin_history.specs.Cells.{cell_after, IsCellHistory}
use Rattle.bin_history.specs.Clients.{by_client}
use Rattle.bin_history.specs.Entries.{lookup, HasDistinctKeys}
use Rattle.bin_history.specs.Plain.{run, IsLegal}
use Rattle.bin_history.specs.Records.{RecordView}
use Rattle.bin_history.specs.declared.call.Reply.{Reply}
use Rattle.script.specs.Functions.{remapped, merged}
use Rattle.script.specs.Grammar.{ScriptCall}
use Rattle.script.specs.declared.function.Function.{Function}

-- the program's keys are compared byte by byte, its values as numbers
abbrev pub same_key : List ℕ → List ℕ → Bool
same_key = pointwise nat_eq

abbrev pub value_after : ScriptCall → Option ℤ → Option ℤ
value_after = after int_eq remapped merged

-- the replies of each client, and the pairs of the final map
pub record Outcome : Type 0 where
  pub replies : List (List (Reply ℤ))
  pub pairs : List (List ℕ × ℤ)

-- the call of a record, and what it replied
abbrev pub call_and_reply : RecordView (List ℕ) ℤ Function → ScriptCall × Reply ℤ
call_and_reply r = (r.call, reply int_eq r.call r.before r.after)

-- a client's calls on a key, with their replies
abbrev pub made_on : List ℕ → List ScriptCall → List (Reply ℤ) → List (ScriptCall × Reply ℤ)
made_on k calls replies = filter (λ m. same_key (key_of m.0) k) (zip calls replies)

-- a map without keys
abbrev pub nothing : List ℕ → Option ℤ
nothing k = None

module _ (blocks : List (List ScriptCall)) (o : Outcome) where
  -- the calls of all clients in one order: each client's are its block, in order, with its
  -- replies; and they are those of a one-thread map that begins empty and ends with the pairs
  pub record IsOrderOf (calls : List (RecordView (List ℕ) ℤ Function)) : Type 0 where
    pub clients : All (λ r. r.client < length blocks) calls
    pub made : (c : ℕ) → c < length blocks → map call_and_reply (by_client c calls) ≡ zip (slice_index_or blocks c [])
        (slice_index_or o.replies c [])
    pub legal : IsLegal same_key value_after nothing calls
    pub final : (k : List ℕ) → lookup same_key o.pairs k ≡ run same_key nothing calls k

  -- each client has a reply for each of its calls, and there is one order of all calls
  pub record IsAllowed : Type 0 where
    pub answered : map length o.replies ≡ map length blocks
    pub distinct : HasDistinctKeys same_key o.pairs
    pub order : (calls : List (RecordView (List ℕ) ℤ Function)) × IsOrderOf calls

  -- these records are a history of the key: of its calls of each client, in that client's order and with the replies,
  -- as those of one cell
  pub record IsHistoryOf (k : List ℕ) (rs : List (RecordView (List ℕ) ℤ Function)) : Type 0 where
    pub clients : All (λ r. r.client < length blocks) rs
    pub made : (c : ℕ) → c < length blocks → map call_and_reply (by_client c rs)
        ≡ made_on k (slice_index_or blocks c []) (slice_index_or o.replies c [])
    pub legal : IsCellHistory value_after None rs
    pub final : cell_after None rs ≡ lookup same_key o.pairs k
