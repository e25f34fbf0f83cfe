-- How what is wrong with a text is told.
use Rattle.std.specs.Prelude.{ℕ, List, ◌++◌, codes, decimal}
use Rattle.script.specs.declared.fault.Kind.{Kind}
use Rattle.script.specs.declared.fault.Kind.TheVariants.{Cut, Bytes, Spaces, Word, Count, Key, Number, Function, Limit}
use Rattle.script.specs.declared.fault.Kind.TheVariants.{Missing}
use Rattle.script.specs.declared.fault.ParseError.{ParseError}
use Rattle.script.specs.declared.fault.ParseError.TheVariants.{NoMemory, Fault}

abbrev pub text_of : Kind → List ℕ
text_of Cut = codes "cut"
text_of Bytes = codes "bytes"
text_of Spaces = codes "spaces"
text_of Word = codes "word"
text_of Count = codes "count"
text_of Key = codes "key"
text_of Number = codes "number"
text_of Function = codes "function"
text_of Limit = codes "limit"
text_of Missing = codes "missing"

-- how a fault is told
abbrev pub fault_text : ℕ → Kind → List ℕ
fault_text line kind = codes "line " ++ decimal line ++ codes ": " ++ text_of kind

abbrev pub error_text : ParseError → List ℕ
error_text NoMemory = codes "no memory"
error_text (Fault f) = fault_text f.line f.kind
