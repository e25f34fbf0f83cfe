-- The words of a line, cut at its first space.
use Rattle.std.proofs.Common.{◌≡◌, ◌≢◌, ℕ, ◌+◌, ◌==◌, Bool, true, false, Option, Some, None, MatchOption, List, [], ◌∷◌}
use Rattle.std.proofs.Common.{◌++◌, length, All, refl, sym, ap, ◌∙◌}
use Rattle.std.proofs.Common.{arith}
use Rattle.std.specs.List.{list_any}
use Rattle.std.specs.Option.{option_map_or}
use Rattle.std.proofs.lemmas.List.Elements.{All-nil, All-cons, All-head, All-tail}
use Rattle.std.proofs.lemmas.Bool.Decides.{nat_tests}
use Rattle.std.proofs.lemmas.List.Splits.{slice_split_none, slice_split_at, length-slice_split}
use Rattle.script.specs.Lines.{Word, words, IsSpaced}
use Rattle.script.specs.Faults.{IsWrong}
use Rattle.script.specs.declared.fault.Kind.TheVariants as kinds

no_spaces : (l : List ℕ) → All (λ b. b ≢ 32) l → All (λ b. (b == 32) ≡ false) l
no_spaces l h = λ k d lt. let ne = h k d lt in grind (arith, nat_tests)

-- the words after the first are those of what follows its space
pub words_at : (text l : List ℕ) (rest : Option (List ℕ)) → All (λ b. b ≢ 32) l →
    MatchOption rest (l ≡ text) (λ more. text ≡ l ++ 32 ∷ more)
    → words text ≡ l ∷ option_map_or words rest []
words_at text l None h e = ap words (sym e) ∙ slice_split_none (λ b. b == 32) l (no_spaces l h)
words_at text l (Some more) h e = ap words e ∙ slice_split_at (λ b. b == 32) l 32 more (no_spaces l h) refl

some_word : (ws : List Word) (n : ℕ) → length ws ≡ n + 1 → IsWrong [] ws kinds.Count
some_word [] n e = absurd (omega arith)
some_word (w ∷ ws) n e = refl

-- a line has a word, which may be empty
pub words-too_many : (l : List ℕ) → IsWrong [] (words l) kinds.Count
words-too_many l = some_word (words l) _ (length-slice_split (λ b. b == 32) l)

abbrev is_empty : Word → Bool
is_empty w = length w == 0

all_some : (ws : List Word) → list_any is_empty ws ≡ false → All (λ w. w ≢ []) ws
all_some [] h = All-nil (λ (w : Word). w ≢ [])
all_some ([] ∷ ws) h = absurd (cc)
all_some ((b ∷ w) ∷ ws) h =
    let some : length (b ∷ w) ≢ 0 = omega arith in
    let more : list_any is_empty ws ≡ false = grind (arith, nat_tests) in
    All-cons (λ (v : Word). v ≢ []) (b ∷ w) ws (λ e. cc) (all_some ws more)

one_empty : (ws : List Word) → list_any is_empty ws ≡ true → All (λ w. w ≢ []) ws → ⊥
one_empty [] h all = cc
one_empty ([] ∷ ws) h all = All-head (λ (w : Word). w ≢ []) [] ws all refl
one_empty ((b ∷ w) ∷ ws) h all =
    let some : length (b ∷ w) ≢ 0 = omega arith in
    let more : list_any is_empty ws ≡ true = grind (arith, nat_tests) in
    one_empty ws more (All-tail (λ (v : Word). v ≢ []) (b ∷ w) ws all)

-- what the test for an empty word says
pub IsSpaced-from_test : (l : List ℕ) → list_any is_empty (words l) ≡ false → IsSpaced l
IsSpaced-from_test l h = all_some (words l) h

pub not_spaced : (l : List ℕ) → list_any is_empty (words l) ≡ true → IsSpaced l → ⊥
not_spaced l h all = one_empty (words l) h all
