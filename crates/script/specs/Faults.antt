-- Which word after the first is wrong, if one is.
use Rattle.std.specs.Prelude.{◌≡◌, ℕ, ℤ, ◌⊎◌, true, nat_eq, if◌then◌else◌, List, [], ◌∷◌, ◌++◌, Contains, MatchOption}
use Rattle.std.specs.Prelude.{codes}
use Rattle.std.specs.Cmp.Lexicographic.{pointwise}
use Rattle.hashkeys.specs.Text.{is_key}
use Rattle.script.specs.Lines.{Word, IsNumber, IsThreshold}
use Rattle.script.specs.Grammar.{Form, alone, key, key_number, key_numbers, key_function, key_merger, threshold}
use Rattle.script.specs.Grammar.{sum_or_max, above, form_of}
use Rattle.script.specs.declared.fault.Kind.{Kind}
use Rattle.script.specs.declared.fault.Kind.TheVariants as kinds

-- what a word is to be
pub data Slot : Type 0 where
  a_key : Slot
  a_number : Slot
  a_threshold : Slot
  a_function : Slot
  a_merger : Slot
  a_sum_or_max : Slot
  the_above : Slot

-- what the words after a first word are to be
abbrev pub slots_of : Form → List Slot
slots_of (alone made) = []
slots_of (key made) = a_key ∷ []
slots_of (key_number made) = a_key ∷ a_number ∷ []
slots_of (key_numbers made) = a_key ∷ a_number ∷ a_number ∷ []
slots_of (key_function made) = a_key ∷ a_function ∷ []
slots_of (key_merger made) = a_key ∷ a_number ∷ a_merger ∷ []
slots_of (threshold made) = a_threshold ∷ []
slots_of (sum_or_max sum max) = a_sum_or_max ∷ a_threshold ∷ []
slots_of (above made) = the_above ∷ a_number ∷ a_threshold ∷ []

abbrev pub function_words : List Word
function_words = codes "sum" ∷ codes "max" ∷ codes "set" ∷ codes "drop" ∷ []

-- the word is what it is to be
abbrev pub Fits : Slot → Word → Type 0
Fits a_key w = is_key w ≡ true
Fits a_number w = (n : ℤ) × IsNumber w n
Fits a_threshold w = (n : ℕ) × IsThreshold w n
Fits a_function w = Contains function_words w
Fits a_merger w = Contains function_words w
Fits a_sum_or_max w = Contains (codes "sum" ∷ codes "max" ∷ []) w
Fits the_above w = w ≡ codes "above"

-- what has to follow a word that fits: the functions but `drop` ask for a number
abbrev pub following : Slot → Word → List Slot
following a_function w = if pointwise nat_eq w (codes "drop") then [] else a_number ∷ []
following a_key w = []
following a_number w = []
following a_threshold w = []
following a_merger w = []
following a_sum_or_max w = []
following the_above w = []

abbrev pub kind_of : Slot → Kind
kind_of a_key = kinds.Key
kind_of a_number = kinds.Number
kind_of a_threshold = kinds.Number
kind_of a_function = kinds.Function
kind_of a_merger = kinds.Function
kind_of a_sum_or_max = kinds.Function
kind_of the_above = kinds.Function

-- the first word that is missing, too many or does not fit gives the kind
abbrev pub IsWrong : List Slot → List Word → Kind → Type 0
IsWrong [] [] kind = ⊥
IsWrong [] (w ∷ ws) kind = kind ≡ kinds.Count
IsWrong (s ∷ ss) [] kind = kind ≡ kinds.Count
IsWrong (s ∷ ss) (w ∷ ws) kind = ((¬ Fits s w) × (kind ≡ kind_of s))
    ⊎ (Fits s w × IsWrong (following s w ++ ss) ws kind)

-- the first of these words is none that has a form, or another is wrong
abbrev pub AreWrong : List (Word × Form) → List Word → Kind → Type 0
AreWrong forms [] kind = ⊥
AreWrong forms (first ∷ rest) kind = MatchOption (form_of forms first) (kind ≡ kinds.Word)
    (λ form. IsWrong (slots_of form) rest kind)

-- the first of these words is missing, or is not what it is to be
abbrev pub FailsFirst : Slot → List Word → Kind → Type 0
FailsFirst slot [] kind = kind ≡ kinds.Count
FailsFirst slot (w ∷ ws) kind = (¬ Fits slot w) × (kind ≡ kind_of slot)

-- the first of these words is missing or is not what it is to be, or what has to follow it is wrong
abbrev pub FailsAt : Slot → List Word → Kind → Type 0
FailsAt slot ws kind = (more : List Slot) → IsWrong (slot ∷ more) ws kind
