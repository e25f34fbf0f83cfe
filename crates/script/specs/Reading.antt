-- Which text is which script, and which line of another text is bad.
use Rattle.std.specs.Prelude.{◌≡◌, ◌≢◌, ℕ, ◌+◌, ◌<◌, ◌≤◌, ◌⊎◌, List, [], ◌∷◌, ◌++◌, length, All}
use Rattle.bin_history.specs.Limits.{most_clients, most_recorded_calls}
use Rattle.bin_history.specs.declared.form.Form.TheVariants.{Recorded}
use Rattle.script.specs.Lines.{Word, BeginsWith, line_feed, words, IsPrintable, IsSpaced}
use Rattle.script.specs.Grammar.{ScriptCall, Line, client, query, call, ask, Form, start_forms, block_forms}
use Rattle.script.specs.Grammar.{query_forms, Reads}
use Rattle.script.specs.Faults.{AreWrong}
use Rattle.script.specs.declared.script.Query.{Query}
use Rattle.script.specs.declared.fault.Kind.{Kind}
use Rattle.script.specs.declared.fault.Kind.TheVariants as kinds

-- a section of a script, with what was read before it: at the start, in a client's block after others, or among the
-- queries
pub data Section : Type 0 where
  start : Section
  calls : List (List ScriptCall) → List ScriptCall → Section
  queries : List (List ScriptCall) → List Query → Section

-- the lines that may stand in a section
abbrev pub forms_at : Section → List (Word × Form)
forms_at start = start_forms
forms_at (calls blocks block) = block_forms
forms_at (queries blocks asked) = query_forms

-- one more such line is too many: there are at most 32 blocks, each of at most 1,000,000 calls
abbrev pub IsTooMany : Section → Line → Type 0
IsTooMany (calls blocks block) client = most_clients Recorded ≤ length blocks + 1
IsTooMany (calls blocks block) (call c) = most_recorded_calls ≤ length block
IsTooMany _ _ = ⊥

-- a line that is not too many leads from section to section
pub data Leads : Section → Line → Section → Type 0 where
  first_client : Leads start client (calls [] [])
  next_client : (blocks : List (List ScriptCall)) (block : List ScriptCall) → length blocks + 1 < most_clients Recorded
      → Leads (calls blocks block) client (calls (blocks ++ block ∷ []) [])
  next_call : (blocks : List (List ScriptCall)) (block : List ScriptCall) (c : ScriptCall) →
      length block < most_recorded_calls
      → Leads (calls blocks block) (call c) (calls blocks (block ++ c ∷ []))
  first_query : (blocks : List (List ScriptCall)) (block : List ScriptCall) →
      Leads (calls blocks block) query (queries (blocks ++ block ∷ []) [])
  next_query : (blocks : List (List ScriptCall)) (asked : List Query) (q : Query) →
      Leads (queries blocks asked) (ask q) (queries blocks (asked ++ q ∷ []))

-- the line says this in the section
pub record IsLine (p : Section) (l : List ℕ) (line : Line) : Type 0 where
  pub printable : IsPrintable l
  pub spaced : IsSpaced l
  pub reads : Reads (forms_at p) (words l) line

-- the first of two tests that fails gives the kind
abbrev pub FirstFails : Type 0 → Kind → (Kind → Type 0) → Kind → Type 0
FirstFails test kind_of_test rest kind = ((¬ test) × (kind ≡ kind_of_test)) ⊎ (test × rest kind)

-- the line reads well, and is one too many
abbrev pub IsBeyond : Section → List ℕ → Kind → Type 0
IsBeyond p l kind = (line : Line) × Reads (forms_at p) (words l) line × IsTooMany p line × (kind ≡ kinds.Limit)

-- the line is bad in the section: of its tests, in this order, the first that fails gives the kind
abbrev pub IsBad : Section → List ℕ → Kind → Type 0
IsBad p l kind =
    FirstFails (IsPrintable l) kinds.Bytes
    (FirstFails (IsSpaced l) kinds.Spaces (λ k. AreWrong (forms_at p) (words l) k ⊎ IsBeyond p l k))
    kind

-- what a text is: a script, of blocks and queries, or faulty, by the number of its first bad line and its kind
pub data Verdict : Type 0 where
  whole : List (List ScriptCall) → List Query → Verdict
  faulty : ℕ → Kind → Verdict

-- what the text from a section and a line number on is
pub data HasVerdictFrom : Section → ℕ → List ℕ → Verdict → Type 0 where
  good : (p q : Section) (n : ℕ) (text l more : List ℕ) (line : Line) (v : Verdict) → BeginsWith text l more →
      IsLine p l line → Leads p line q
      → HasVerdictFrom q (n + 1) more v → HasVerdictFrom p n text v
  bad : (p : Section) (n : ℕ) (text l more : List ℕ) (kind : Kind) → BeginsWith text l more → IsBad p l kind →
      HasVerdictFrom p n text (faulty n kind)
  cut : (p : Section) (n : ℕ) (text : List ℕ) → text ≢ [] → All (λ b. b ≢ line_feed) text →
      HasVerdictFrom p n text (faulty n kinds.Cut)
  ended : (blocks : List (List ScriptCall)) (asked : List Query) (n : ℕ) →
      HasVerdictFrom (queries blocks asked) n [] (whole blocks asked)
  missing : (p : Section) (n : ℕ) → ((blocks : List (List ScriptCall)) (asked : List Query) → p ≢ queries blocks asked)
      → HasVerdictFrom p n [] (faulty n kinds.Missing)
