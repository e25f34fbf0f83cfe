-- What a text is, and what its reading answers.
use Rattle.std.specs.Prelude.{◌≡◌, ℕ, ◌<◌, ◌≤◌, List, length, All, map}
use Rattle.bin_history.specs.Limits.{most_clients, most_recorded_calls}
use Rattle.bin_history.specs.declared.form.Form.TheVariants.{Recorded}
use Rattle.script.specs.Grammar.{ScriptCall}
use Rattle.script.specs.Reading.{start, Verdict, whole, faulty, HasVerdictFrom}
use Rattle.script.specs.declared.script.Script.{Script}
use Rattle.script.specs.declared.fault.Kind.{Kind}
use Rattle.script.specs.declared.fault.ParseError.{ParseError}
use Rattle.script.specs.declared.fault.ParseError.TheVariants.{NoMemory, Fault}

-- what the whole text is
abbrev pub HasVerdict : List ℕ → Verdict → Type 0
HasVerdict text v = HasVerdictFrom start 1 text v

-- the text is this, and nothing else
pub record IsJust (text : List ℕ) (v : Verdict) : Type 0 where
  pub holds : HasVerdict text v
  pub only : (u : Verdict) → HasVerdict text u → u ≡ v

-- the blocks of a script
abbrev pub blocks_of : {A : Type 0} → Script A → List (List ScriptCall)
blocks_of s = map (λ b. b.items) s.blocks.items

-- the text is that of the script
abbrev pub IsText : {A : Type 0} → List ℕ → Script A → Type 0
IsText text s = IsJust text (whole (blocks_of s) s.queries.items)

-- the text is no script: its first bad line has this number, from 1, and this kind
abbrev pub IsFaulty : List ℕ → ℕ → Kind → Type 0
IsFaulty text n kind = IsJust text (faulty n kind)

-- there are 1 to 32 blocks, each of at most 1,000,000 calls
pub record IsWithinLimits (blocks : List (List ScriptCall)) : Type 0 where
  pub some : 0 < length blocks
  pub few : length blocks ≤ most_clients Recorded
  pub short : All (λ b. length b ≤ most_recorded_calls) blocks

-- a refusal that is not for want of memory names the fault
abbrev pub IsTold : List ℕ → ParseError → Type 0
IsTold text NoMemory = Unit {0}
IsTold text (Fault f) = IsFaulty text f.line f.kind
