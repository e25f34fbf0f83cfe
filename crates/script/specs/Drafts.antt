-- Where a draft of a script is, and what an attempt at its next line comes to.
use Rattle.std.specs.Prelude.{◌≡◌, ℕ, ◌⊎◌, List, map}
use Rattle.std.specs.declared.vec.Vec.{Vec}
use Rattle.script.specs.Lines.{words, IsPrintable, IsSpaced}
use Rattle.script.specs.Grammar.{ScriptCall, Line, client, query, call}
use Rattle.script.specs.Faults.{AreWrong}
use Rattle.script.specs.Reading.{Section, start, calls, queries, forms_at, IsTooMany, FirstFails, IsBeyond, IsBad}
use Rattle.script.specs.declared.draft.Draft.{Draft}
use Rattle.script.specs.declared.draft.Draft.TheVariants as drafts
use Rattle.script.specs.declared.fault.LineError.{LineError}
use Rattle.script.specs.declared.fault.LineError.TheVariants.{NoMemory, Bad}
use Rattle.script.specs.declared.fault.ParseError.{ParseError}
use Rattle.script.specs.declared.fault.ParseError.TheVariants as errors
use Rattle.script.specs.declared.fault.Kind.{Kind}
use Rattle.script.specs.declared.fault.Kind.TheVariants as kinds
use Rattle.script.specs.declared.forms.BlockLine.{BlockLine}
use Rattle.script.specs.declared.forms.BlockLine.TheVariants as blocks

-- in a block of these calls, after these blocks
abbrev pub in_block : {A : Type 0} → List (Vec ScriptCall A) → List ScriptCall → Section
in_block blocks block = calls (map (λ b. b.items) blocks) block

abbrev pub section_of : {A : Type 0} → Draft A → Section
section_of drafts.Start = start
section_of (drafts.Calls blocks block) = in_block blocks.items block.items
section_of (drafts.Queries blocks asked) = queries (map (λ b. b.items) blocks.items) asked.items

abbrev pub line_of : BlockLine → Line
line_of blocks.Client = client
line_of blocks.Query = query
line_of (blocks.Call c) = call c

-- the line has a byte that is not printable, or spaces in other places than between words
abbrev pub HasBadBytes : List ℕ → Kind → Type 0
HasBadBytes l kind = FirstFails (IsPrintable l) kinds.Bytes (λ k. (¬ IsSpaced l) × (k ≡ kinds.Spaces)) kind

-- a refusal that is not for want of memory says that the line is bad
abbrev pub IsRefused : Section → List ℕ → LineError → Type 0
IsRefused p l NoMemory = Unit {0}
IsRefused p l (Bad kind) = IsBad p l kind

-- a refusal of a line's words that is not for want of memory says which is wrong, or that the line is one too many
abbrev pub IsMisread : Section → List ℕ → LineError → Type 0
IsMisread p l NoMemory = Unit {0}
IsMisread p l (Bad kind) = AreWrong (forms_at p) (words l) kind ⊎ IsBeyond p l kind

-- or that it is one too many
abbrev pub IsRefusedAtLimit : Section → Line → LineError → Type 0
IsRefusedAtLimit p line NoMemory = Unit {0}
IsRefusedAtLimit p line (Bad kind) = IsTooMany p line × (kind ≡ kinds.Limit)

-- the error of a text whose line of this number is refused
abbrev pub error_at : ℕ → LineError → ParseError
error_at n NoMemory = errors.NoMemory
error_at n (Bad kind) = errors.Fault (record { line = n; kind = kind })
