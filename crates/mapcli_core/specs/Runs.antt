-- What a run of a script's text leaves written.
use Rattle.std.specs.Prelude.{◌≡◌, ℕ, ◌⊎◌, List, [], ◌∷◌, Option, IfSome, Result}
use Rattle.script.specs.Grammar.{ScriptCall}
use Rattle.script.specs.Reading.{whole}
use Rattle.script.specs.Verdicts.{IsJust, IsFaulty}
use Rattle.script.specs.declared.script.Query.{Query}
use Rattle.mapcli_core.specs.Determined.{HasNoSearch}
use Rattle.mapcli_core.specs.Failures.{count_after}
use Rattle.mapcli_core.specs.Outcomes.{Outcome, IsAllowed}
use Rattle.mapcli_core.specs.Texts.{IsOutput}
use Rattle.mapcli_core.specs.declared.fault.Fault.{Fault}
use Rattle.mapcli_core.specs.declared.fault.Fault.TheVariants.{NoMemory, BadCapacity, BadWorkers, ScriptFault, Device}
use Rattle.mapcli_core.specs.declared.fault.Fault.TheVariants.{BinMissing, Usage, Help}

-- the text is a script of these blocks and queries, and of no others
abbrev pub IsScript : List ℕ → List (List ScriptCall) → List Query → Type 0
IsScript text blocks queries = IsJust text (whole blocks queries)

-- the bytes are an output text of an allowed outcome of the script that the text is
abbrev pub IsOutputOf : List ℕ → List ℕ → Type 0
IsOutputOf text bytes = (blocks : List (List ScriptCall)) × (queries : List Query) × (o : Outcome)
    × IsScript text blocks queries × IsAllowed blocks o
    × IsOutput queries o bytes

-- why a text gave no script: memory ran out, or its first bad line
abbrev pub IsUnread : List ℕ → Fault → Type 0
IsUnread text NoMemory = Unit {0}
IsUnread text (ScriptFault line kind) = IsFaulty text line kind
IsUnread text BadCapacity = ⊥
IsUnread text BadWorkers = ⊥
IsUnread text Device = ⊥
IsUnread text BinMissing = ⊥
IsUnread text (Usage words) = ⊥
IsUnread text (Help words) = ⊥

-- why a text gave no output: the same, or it is a script, and bins of its map were missing
abbrev pub IsRefusalOf : List ℕ → Fault → Type 0
IsRefusalOf text fault = IsUnread text fault
    ⊎ ((fault ≡ BinMissing) × (blocks : List (List ScriptCall)) × (queries : List Query) × IsScript text blocks queries)

-- a text that is all that an input had left, where that is known, and for which this holds
abbrev pub OfInput : Option (List ℕ) → (List ℕ → Type 0) → Type 0
OfInput remaining P = (text : List ℕ) × IfSome remaining (λ bytes. text ≡ bytes) × P text

-- an output of the input's script, for which this holds
abbrev pub OfOutput : Option (List ℕ) → (List ℕ → Type 0) → Type 0
OfOutput remaining P = OfInput remaining (λ text. (bytes : List ℕ) × IsOutputOf text bytes × P bytes)

-- of the counts of failed reads and failed writes one at most has changed: it is one more where the fault is a device's
abbrev pub OneCounts : Result Unit Fault → ℕ → ℕ → ℕ → ℕ → Type 0
OneCounts r reads reads_after writes writes_after =
    ((reads_after ≡ count_after r reads) × (writes_after ≡ writes))
    ⊎ ((reads_after ≡ reads) × (writes_after ≡ count_after r writes))

-- the text is a script with one client and without a query that leaves a choice
abbrev pub IsDetermined : List ℕ → Type 0
IsDetermined text = (calls : List ScriptCall) × (queries : List Query) × IsScript text (calls ∷ []) queries
    × HasNoSearch queries
