-- What the lines of a script say.
use Rattle.std.specs.Prelude.{◌≡◌, ℕ, ℤ, ◌⊎◌, true, List, [], ◌∷◌, Option, MatchOption, codes, nat_eq}
use Rattle.std.specs.Cmp.Lexicographic.{pointwise}
use Rattle.hashkeys.specs.Text.{is_key}
use Rattle.bin_history.specs.Entries.{lookup}
use Rattle.bin_history.specs.declared.call.Call.{Call}
use Rattle.bin_history.specs.declared.call.Call.TheVariants.{Get, Contains as Holds, Put, PutIfAbsent, Remove, RemoveIf}
use Rattle.bin_history.specs.declared.call.Call.TheVariants.{Replace, ReplaceIf, ComputeIfAbsent}
use Rattle.bin_history.specs.declared.call.Call.TheVariants.{ComputeIfPresent, Compute, Merge}
use Rattle.script.specs.Lines.{Word, IsNumber, IsThreshold}
use Rattle.script.specs.declared.function.Function.{Function}
use Rattle.script.specs.declared.function.Function.TheVariants.{Sum, Max, Set, Drop}
use Rattle.script.specs.declared.script.Query.{Query}
use Rattle.script.specs.declared.script.Query.TheVariants.{Count, ReduceSum, ReduceMax, SearchAbove, List as Listing}

-- a call on a program's key, with values of 64 bits
abbrev pub ScriptCall : Type 0
ScriptCall = Call (List ℕ) ℤ Function

-- what a line says: it opens a client's block, ends the blocks, makes a call or asks a query
pub data Line : Type 0 where
  client : Line
  query : Line
  call : ScriptCall → Line
  ask : Query → Line

-- the words of a function and its number
abbrev pub IsFunction : List Word → Function → Type 0
IsFunction ws (Sum n) = (w : Word) × IsNumber w n × (ws ≡ codes "sum" ∷ w ∷ [])
IsFunction ws (Max n) = (w : Word) × IsNumber w n × (ws ≡ codes "max" ∷ w ∷ [])
IsFunction ws (Set n) = (w : Word) × IsNumber w n × (ws ≡ codes "set" ∷ w ∷ [])
IsFunction ws Drop = ws ≡ codes "drop" ∷ []

-- the word of a merge's function, whose number is the given value
abbrev pub IsMerger : Word → ℤ → Function → Type 0
IsMerger w v (Sum n) = (w ≡ codes "sum") × (n ≡ v)
IsMerger w v (Max n) = (w ≡ codes "max") × (n ≡ v)
IsMerger w v (Set n) = (w ≡ codes "set") × (n ≡ v)
IsMerger w v Drop = w ≡ codes "drop"

-- what the words after a first word are, and the line, call or query that they make
pub data Form : Type 0 where
  alone : Line → Form
  key : (List ℕ → ScriptCall) → Form
  key_number : (List ℕ → ℤ → ScriptCall) → Form
  key_numbers : (List ℕ → ℤ → ℤ → ScriptCall) → Form
  key_function : (List ℕ → Function → ScriptCall) → Form
  key_merger : (List ℕ → ℤ → Function → ScriptCall) → Form
  threshold : (ℕ → Query) → Form
  sum_or_max : (ℕ → Query) → (ℕ → Query) → Form
  above : (ℤ → ℕ → Query) → Form

-- the lines that may stand at the start, by their first words
abbrev pub start_forms : List (Word × Form)
start_forms = (codes "client", alone client) ∷ []

-- the calls that ask a function
abbrev pub computing_forms : List (Word × Form)
computing_forms =
    (codes "compute_if_absent", key_function ComputeIfAbsent)
    ∷ (codes "compute_if_present", key_function ComputeIfPresent)
    ∷ (codes "compute", key_function Compute)
    ∷ (codes "merge", key_merger Merge)
    ∷ []

-- those, and the calls that remove or replace
abbrev pub replacing_forms : List (Word × Form)
replacing_forms =
    (codes "remove", key Remove)
    ∷ (codes "remove_if", key_number RemoveIf)
    ∷ (codes "replace", key_number Replace)
    ∷ (codes "replace_if", key_numbers ReplaceIf)
    ∷ computing_forms

-- all calls
abbrev pub call_forms : List (Word × Form)
call_forms =
    (codes "get", key Get)
    ∷ (codes "contains", key Holds)
    ∷ (codes "put", key_number Put)
    ∷ (codes "put_if_absent", key_number PutIfAbsent)
    ∷ replacing_forms

-- the lines that may stand after a client line
abbrev pub block_forms : List (Word × Form)
block_forms = (codes "client", alone client) ∷ (codes "query", alone query) ∷ call_forms

-- those after the query line
abbrev pub query_forms : List (Word × Form)
query_forms =
    (codes "count", alone (ask Count))
    ∷ (codes "reduce", sum_or_max ReduceSum ReduceMax)
    ∷ (codes "search", above SearchAbove)
    ∷ (codes "list", threshold Listing)
    ∷ []

-- the form of a first word, if these have one for it
abbrev pub form_of : List (Word × Form) → Word → Option Form
form_of forms first = lookup (pointwise nat_eq) forms first

-- the words after the first, by the form, make the line
abbrev pub Says : Form → List Word → Line → Type 0
Says (alone made) ws line = (ws ≡ []) × (line ≡ made)
Says (key made) ws line = (k : Word) × (is_key k ≡ true) × (ws ≡ k ∷ []) × (line ≡ call (made k))
Says (key_number made) ws line = (k w : Word) × (v : ℤ) × (is_key k ≡ true) × IsNumber w v × (ws ≡ k ∷ w ∷ [])
    × (line ≡ call (made k v))
Says (key_numbers made) ws line =
    (k w x : Word) × (u v : ℤ) × (is_key k ≡ true) × IsNumber w u × IsNumber x v × (ws ≡ k ∷ w ∷ x ∷ [])
    × (line ≡ call (made k u v))
Says (key_function made) ws line = (k : Word) × (fs : List Word) × (f : Function) × (is_key k ≡ true) × IsFunction fs f
    × (ws ≡ k ∷ fs)
    × (line ≡ call (made k f))
Says (key_merger made) ws line =
    (k w m : Word) × (v : ℤ) × (f : Function) × (is_key k ≡ true) × IsNumber w v × IsMerger m v f
    × (ws ≡ k ∷ w ∷ m ∷ []) × (line ≡ call (made k v f))
Says (threshold made) ws line = (w : Word) × (t : ℕ) × IsThreshold w t × (ws ≡ w ∷ []) × (line ≡ ask (made t))
Says (sum_or_max sum max) ws line =
    (w : Word) × (t : ℕ) × IsThreshold w t
    × (((ws ≡ codes "sum" ∷ w ∷ []) × (line ≡ ask (sum t))) ⊎ ((ws ≡ codes "max" ∷ w ∷ []) × (line ≡ ask (max t))))
Says (above made) ws line =
    (w x : Word) × (v : ℤ) × (t : ℕ) × IsNumber w v × IsThreshold x t × (ws ≡ codes "above" ∷ w ∷ x ∷ [])
    × (line ≡ ask (made v t))

-- the words make the line, by the form of the first of them
abbrev pub Reads : List (Word × Form) → List Word → Line → Type 0
Reads forms [] line = ⊥
Reads forms (first ∷ rest) line = MatchOption (form_of forms first) ⊥ (λ form. Says form rest line)
