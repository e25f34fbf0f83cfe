-- Words that make a line have no bad bytes.
use Rattle.std.proofs.Common.{◌≡◌, ◌≢◌, ℕ, ℤ, pos, negsuc, suc, ◌<◌, ◌≤◌, ◌^◌, Bool, true, false, ◌&&◌, inl, inr}
use Rattle.std.proofs.Common.{nat_eq, Option, Some, None, MatchOption, List}
use Rattle.std.proofs.Common.{[], ◌∷◌, ◌++◌, length, All, map, refl, sym, subst, arith}
use Rattle.std.specs.Prelude.{decimal}
use Rattle.std.specs.List.{join_with_byte}
use Rattle.std.specs.Str.Parse.{AllDigits}
use Rattle.std.specs.Cmp.Lexicographic.{pointwise, bytes_decides}
use Rattle.std.proofs.lemmas.Bool.Decides.{nat_tests}
use Rattle.std.proofs.lemmas.Fmt.{decimal_is_IsNumeral}
use Rattle.std.proofs.lemmas.Int.{ints}
use Rattle.std.proofs.lemmas.List.Elements.{All-nil, All-cons}
use Rattle.std.proofs.lemmas.List.Splits.{join_with_byte-slice_split}
use Rattle.std.proofs.lemmas.Str.Parse.{digit_from_value}
use Rattle.hashkeys.specs.Text.{is_word_byte, are_word_bytes, is_key}
use Rattle.script.specs.Lines.{Word, words, is_printable, IsPrintable, IsSpaced, IsNumber, IsThreshold}
use Rattle.script.specs.Grammar.{Line, Form, alone, key, key_number, key_numbers, key_function, key_merger, threshold}
use Rattle.script.specs.Grammar.{sum_or_max, above, IsFunction, IsMerger}
use Rattle.script.specs.Grammar.{form_of, Says, Reads}
use Rattle.script.specs.Reading.{Section, start, calls, queries, forms_at}
use Rattle.script.specs.declared.function.Function.{Function}
use Rattle.script.specs.declared.function.Function.TheVariants.{Sum, Max, Set, Drop}

abbrev are_printable : List ℕ → Bool
are_printable [] = true
are_printable (b ∷ bs) = is_printable b && are_printable bs

-- a word that is not empty, and printable
abbrev is_written : Word → Bool
is_written [] = false
is_written (b ∷ bs) = are_printable (b ∷ bs)

abbrev AreWritten : List Word → Type 0
AreWritten [] = Unit {0}
AreWritten (w ∷ ws) = (is_written w ≡ true) × AreWritten ws

both : (a b : Bool) → a ≡ true → b ≡ true → (a && b) ≡ true
both a b h g = grind arith

left : (a b : Bool) → (a && b) ≡ true → a ≡ true
left a b h = grind arith

right : (a b : Bool) → (a && b) ≡ true → b ≡ true
right a b h = grind arith

-- a line of such words
printable_all : (l : List ℕ) → are_printable l ≡ true → IsPrintable l
printable_all [] h = All-nil (λ b. is_printable b ≡ true)
printable_all (b ∷ bs) h = All-cons (λ c. is_printable c ≡ true) b bs (left (is_printable b) _ h)
    (printable_all bs (right (is_printable b) _ h))

printable_joined : (a b : List ℕ) → are_printable a ≡ true → are_printable b ≡ true → are_printable (a ++ b) ≡ true
printable_joined [] b h g = g
printable_joined (x ∷ a) b h g = both (is_printable x) _ (left (is_printable x) _ h)
    (printable_joined a b (right (is_printable x) _ h) g)

written_printable : (w : Word) → is_written w ≡ true → are_printable w ≡ true
written_printable [] h = refl
written_printable (b ∷ bs) h = h

printable_line : (ws : List Word) → AreWritten ws → are_printable (join_with_byte 32 ws) ≡ true
printable_line [] h = refl
printable_line (w ∷ []) h = written_printable w h.0
printable_line (w ∷ v ∷ ws) h = printable_joined w (32 ∷ join_with_byte 32 (v ∷ ws)) (written_printable w h.0)
    (printable_line (v ∷ ws) h.1)

written_some : (w : Word) → is_written w ≡ true → w ≢ []
written_some [] h = cc
written_some (b ∷ bs) h = λ e. cc

spaced_all : (ws : List Word) → AreWritten ws → All (λ w. w ≢ []) ws
spaced_all [] h = All-nil (λ (w : Word). w ≢ [])
spaced_all (w ∷ ws) h = All-cons (λ (v : Word). v ≢ []) w ws (written_some w h.0) (spaced_all ws h.1)

-- keys, numbers and the words of functions
word_byte : (b : ℕ) → is_word_byte b ≡ true → is_printable b ≡ true
word_byte b h = grind (arith, nat_tests)

word_bytes : (bs : List ℕ) → are_word_bytes bs ≡ true → are_printable bs ≡ true
word_bytes [] h = refl
word_bytes (b ∷ bs) h = both (is_printable b) _ (word_byte b (left (is_word_byte b) _ h))
    (word_bytes bs (right (is_word_byte b) _ h))

key_written : (k : Word) → is_key k ≡ true → is_written k ≡ true
key_written [] h = h
key_written (b ∷ bs) h = word_bytes (b ∷ bs) (right _ (are_word_bytes (b ∷ bs)) h)

digit_printable : (b : ℕ) → 48 ≤ b → b ≤ 57 → is_printable b ≡ true
digit_printable b h g = grind (arith, nat_tests)

digits_printable : (ds : List ℕ) → AllDigits 10 ds → are_printable ds ≡ true
digits_printable [] h = refl
digits_printable (d ∷ ds) h =
    let range = digit_from_value d h.0 in
    both (is_printable d) _ (digit_printable d (omega (arith, range)) (omega (arith, range))) (digits_printable ds h.1)

digits_written : (ds : List ℕ) → 0 < length ds → AllDigits 10 ds → is_written ds ≡ true
digits_written [] some h = absurd (omega arith)
digits_written (d ∷ ds) some h = digits_printable (d ∷ ds) h

decimal_written : (n : ℕ) → n < 2 ^ 64 → is_written (decimal n) ≡ true
decimal_written n h = let is = (decimal_is_IsNumeral n h).0 in digits_written (decimal n) is.0 is.1

at_word : (w v : Word) → w ≡ v → is_written v ≡ true → is_written w ≡ true
at_word w v e h = subst (λ (u : Word). is_written u ≡ true) (sym e) h

at_words : (ws vs : List Word) → ws ≡ vs → AreWritten vs → AreWritten ws
at_words ws vs e h = subst AreWritten (sym e) h

number_written : (w : Word) (n : ℤ) → IsNumber w n → is_written w ≡ true
number_written w (pos n) h = at_word w _ h.1 (decimal_written n (omega (arith, ints, h.0)))
number_written w (negsuc n) h =
    at_word w _ h.1 (written_printable (decimal (suc n)) (decimal_written (suc n) (omega (arith, ints, h.0))))

threshold_written : (w : Word) (n : ℕ) → IsThreshold w n → is_written w ≡ true
threshold_written w n h = at_word w _ h.1 (decimal_written n h.0)

function_written : (ws : List Word) (f : Function) → IsFunction ws f → AreWritten ws
function_written ws (Sum n) (w, is, e) = at_words ws _ e (refl, (number_written w n is, tt))
function_written ws (Max n) (w, is, e) = at_words ws _ e (refl, (number_written w n is, tt))
function_written ws (Set n) (w, is, e) = at_words ws _ e (refl, (number_written w n is, tt))
function_written ws Drop e = at_words ws _ e (refl, tt)

merger_written : (w : Word) (v : ℤ) (f : Function) → IsMerger w v f → is_written w ≡ true
merger_written w v (Sum n) h = at_word w _ h.0 refl
merger_written w v (Max n) h = at_word w _ h.0 refl
merger_written w v (Set n) h = at_word w _ h.0 refl
merger_written w v Drop h = at_word w _ h refl

-- the words of a form
says_written : (form : Form) (ws : List Word) (line : Line) → Says form ws line → AreWritten ws
says_written (alone made) ws line h = at_words ws [] h.0 tt
says_written (key made) ws line (k, is, e, m) = at_words ws _ e (key_written k is, tt)
says_written (key_number made) ws line (k, w, v, is, num, e, m) =
    at_words ws _ e (key_written k is, (number_written w v num, tt))
says_written (key_numbers made) ws line (k, w, x, u, v, is, num, more, e, m) =
    at_words ws _ e (key_written k is, (number_written w u num, (number_written x v more, tt)))
says_written (key_function made) ws line (k, fs, f, is, fun, e, m) =
    at_words ws _ e (key_written k is, function_written fs f fun)
says_written (key_merger made) ws line (k, w, x, v, f, is, num, mer, e, m) =
    at_words ws _ e (key_written k is, (number_written w v num, (merger_written x v f mer, tt)))
says_written (threshold made) ws line (w, t, is, e, m) = at_words ws _ e (threshold_written w t is, tt)
says_written (sum_or_max sum max) ws line (w, t, is, inl h) = at_words ws _ h.0 (refl, (threshold_written w t is, tt))
says_written (sum_or_max sum max) ws line (w, t, is, inr h) = at_words ws _ h.0 (refl, (threshold_written w t is, tt))
says_written (above made) ws line (w, x, v, t, num, is, e, m) =
    at_words ws _ e (refl, (number_written w v num, (threshold_written x t is, tt)))

-- the first words that have forms
abbrev names : List (Word × Form) → List Word
names forms = map (λ f. f.0) forms

first_written : (forms : List (Word × Form)) (first : Word) (form : Form) → AreWritten (names forms) →
    form_of forms first ≡ Some form → is_written first ≡ true
first_written [] first form h e = cc
first_written (f ∷ forms) first form h e =
    go (pointwise nat_eq f.0 first) refl (λ later. first_written forms first form h.1 later) where
      go : (b : Bool) → pointwise nat_eq f.0 first ≡ b → (form_of forms first ≡ Some form → is_written first ≡ true) →
          is_written first ≡ true
      go true is later = at_word first f.0 (sym ((bytes_decides f.0 first).0 is)) h.0
      go false is later = later (grind arith)

reads_written : (forms : List (Word × Form)) (ws : List Word) (line : Line) → AreWritten (names forms) →
    Reads forms ws line → AreWritten ws
reads_written forms [] line h reads = tt
reads_written forms (first ∷ rest) line h reads = go (form_of forms first) refl reads where
  go : (o : Option Form) → form_of forms first ≡ o → MatchOption o ⊥ (λ form. Says form rest line) →
      AreWritten (first ∷ rest)
  go None e said = absurd said
  go (Some form) e said = (first_written forms first form h e, says_written form rest line said)

names_written : (p : Section) → AreWritten (names (forms_at p))
names_written start = (refl, tt)
names_written (calls blocks block) =
    (refl, (refl, (refl, (refl, (refl, (refl, (refl, (refl, (refl, (refl, (refl, (refl, (refl, (refl, tt))))))))))))))
names_written (queries blocks asked) = (refl, (refl, (refl, (refl, tt))))

-- a line whose words make one is printable, and single spaces stand between them alone
module _ (p : Section) (l : List ℕ) (line : Line) (reads : Reads (forms_at p) (words l) line) where
  written : AreWritten (words l)
  written = reads_written (forms_at p) (words l) line (names_written p) reads

  pub Reads-printable : IsPrintable l
  Reads-printable =
      printable_all l (subst (λ (m : List ℕ). are_printable m ≡ true) (join_with_byte-slice_split 32 l)
      (printable_line (words l) written))

  pub Reads-spaced : IsSpaced l
  Reads-spaced = spaced_all (words l) written
