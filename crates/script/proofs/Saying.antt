-- The words of a line make one line at most, and where they make one, none of them is wrong.
use Rattle.std.proofs.Common.{◌≡◌, ℕ, ℤ, inl, inr, List, [], ◌∷◌, ◌++◌, Option, Some, None, MatchOption, slice_index}
use Rattle.std.proofs.Common.{slice_index_or, refl, sym, ap, ◌∙◌, subst}
use Rattle.std.proofs.Common.{arith}
use Rattle.std.specs.Prelude.{codes}
use Rattle.std.proofs.lemmas.Fmt.{signed_decimal_injective, decimal_injective}
use Rattle.script.proofs.Numbers.{mag_small}
use Rattle.script.proofs.Functions.{named, IsMerger-fits}
use Rattle.script.specs.Lines.{Word, IsNumber, IsThreshold}
use Rattle.script.specs.Grammar.{Line, ask, IsFunction, IsMerger, Form, alone, key, key_number, key_numbers}
use Rattle.script.specs.Grammar.{key_function, key_merger, threshold, sum_or_max}
use Rattle.script.specs.Grammar.{above, form_of, Says, Reads}
use Rattle.script.specs.Faults.{Slot, a_key, a_number, a_threshold, a_function, a_merger, a_sum_or_max, the_above}
use Rattle.script.specs.Faults.{slots_of, Fits, following, IsWrong, AreWrong}
use Rattle.script.specs.declared.function.Function.{Function}
use Rattle.script.specs.declared.function.Function.TheVariants.{Sum, Max, Set, Drop}
use Rattle.script.specs.declared.fault.Kind.{Kind}
use Rattle.script.specs.declared.fault.Kind.TheVariants as kinds

-- a word that fits leaves the fault to the words after it
passes : (s : Slot) (w : Word) (ss : List Slot) (ws : List Word) (kind : Kind) → Fits s w →
    (IsWrong (following s w ++ ss) ws kind → ⊥)
    → IsWrong (s ∷ ss) (w ∷ ws) kind → ⊥
passes s w ss ws kind fits rest (inl bad) = bad.0 fits
passes s w ss ws kind fits rest (inr wrong) = rest wrong.1

-- a function's words are not wrong
function_fits : (fs : List Word) (f : Function) (kind : Kind) → IsFunction fs f → IsWrong (a_function ∷ []) fs kind → ⊥
function_fits fs (Sum n) kind (w, is, e) wrong =
    let here = subst (λ (v : List Word). IsWrong (a_function ∷ []) v kind) e wrong in
    passes a_function (codes "sum") [] (w ∷ []) kind (named 0 (codes "sum") (omega arith) refl)
    (passes a_number w [] [] kind (n, is) (λ h. h)) here
function_fits fs (Max n) kind (w, is, e) wrong =
    let here = subst (λ (v : List Word). IsWrong (a_function ∷ []) v kind) e wrong in
    passes a_function (codes "max") [] (w ∷ []) kind (named 1 (codes "max") (omega arith) refl)
    (passes a_number w [] [] kind (n, is) (λ h. h)) here
function_fits fs (Set n) kind (w, is, e) wrong =
    let here = subst (λ (v : List Word). IsWrong (a_function ∷ []) v kind) e wrong in
    passes a_function (codes "set") [] (w ∷ []) kind (named 2 (codes "set") (omega arith) refl)
    (passes a_number w [] [] kind (n, is) (λ h. h)) here
function_fits fs Drop kind e wrong =
    let here = subst (λ (v : List Word). IsWrong (a_function ∷ []) v kind) e wrong in
    passes a_function (codes "drop") [] [] kind (named 3 (codes "drop") (omega arith) refl) (λ h. h) here

at_words : (ss : List Slot) (kind : Kind) (ws vs : List Word) → ws ≡ vs → (IsWrong ss vs kind → ⊥) →
    IsWrong ss ws kind → ⊥
at_words ss kind ws vs e fits wrong = fits (subst (λ (v : List Word). IsWrong ss v kind) e wrong)

-- where the words make a line, none is wrong
pub Says-fits : (form : Form) (ws : List Word) (line : Line) (kind : Kind) → Says form ws line →
    IsWrong (slots_of form) ws kind → ⊥
Says-fits (alone made) ws line kind h = at_words [] kind ws [] h.0 (λ g. g)
Says-fits (key made) ws line kind (k, is, e, made_is) =
    at_words (a_key ∷ []) kind ws (k ∷ []) e (passes a_key k [] [] kind is (λ g. g))
Says-fits (key_number made) ws line kind (k, w, v, is, num, e, made_is) =
    at_words (a_key ∷ a_number ∷ []) kind ws (k ∷ w ∷ []) e
    (passes a_key k (a_number ∷ []) (w ∷ []) kind is (passes a_number w [] [] kind (v, num) (λ g. g)))
Says-fits (key_numbers made) ws line kind (k, w, x, u, v, is, num, more, e, made_is) =
    at_words (a_key ∷ a_number ∷ a_number ∷ []) kind ws (k ∷ w ∷ x ∷ []) e
    (passes a_key k (a_number ∷ a_number ∷ []) (w ∷ x ∷ []) kind is
    (passes a_number w (a_number ∷ []) (x ∷ []) kind (u, num) (passes a_number x [] [] kind (v, more) (λ g. g))))
Says-fits (key_function made) ws line kind (k, fs, f, is, fun, e, made_is) =
    at_words (a_key ∷ a_function ∷ []) kind ws (k ∷ fs) e
    (passes a_key k (a_function ∷ []) fs kind is (function_fits fs f kind fun))
Says-fits (key_merger made) ws line kind (k, w, m, v, f, is, num, mer, e, made_is) =
    at_words (a_key ∷ a_number ∷ a_merger ∷ []) kind ws (k ∷ w ∷ m ∷ []) e
    (passes a_key k (a_number ∷ a_merger ∷ []) (w ∷ m ∷ []) kind is
    (passes a_number w (a_merger ∷ []) (m ∷ []) kind (v, num)
    (passes a_merger m [] [] kind (IsMerger-fits f m v mer) (λ g. g))))
Says-fits (threshold made) ws line kind (w, t, is, e, made_is) =
    at_words (a_threshold ∷ []) kind ws (w ∷ []) e (passes a_threshold w [] [] kind (t, is) (λ g. g))
Says-fits (sum_or_max sum max) ws line kind (w, t, is, inl h) =
    at_words (a_sum_or_max ∷ a_threshold ∷ []) kind ws (codes "sum" ∷ w ∷ []) h.0
    (passes a_sum_or_max (codes "sum") (a_threshold ∷ []) (w ∷ []) kind (0, omega arith, refl)
    (passes a_threshold w [] [] kind (t, is) (λ g. g)))
Says-fits (sum_or_max sum max) ws line kind (w, t, is, inr h) =
    at_words (a_sum_or_max ∷ a_threshold ∷ []) kind ws (codes "max" ∷ w ∷ []) h.0
    (passes a_sum_or_max (codes "max") (a_threshold ∷ []) (w ∷ []) kind (1, omega arith, refl)
    (passes a_threshold w [] [] kind (t, is) (λ g. g)))
Says-fits (above made) ws line kind (w, x, v, t, num, is, e, made_is) =
    at_words (the_above ∷ a_number ∷ a_threshold ∷ []) kind ws (codes "above" ∷ w ∷ x ∷ []) e
    (passes the_above (codes "above") (a_number ∷ a_threshold ∷ [])
    (w ∷ x ∷ []) kind refl
    (passes a_number w (a_threshold ∷ []) (x ∷ []) kind (v, num)
    (passes a_threshold x [] [] kind (t, is) (λ g. g))))

-- a word is one number
number_same : (w x : Word) (m n : ℤ) → w ≡ x → IsNumber w m → IsNumber x n → m ≡ n
number_same w x m n e h g = signed_decimal_injective m n (mag_small m h.0) (mag_small n g.0) (sym h.1 ∙ e ∙ g.1)

threshold_same : (w x : Word) (m n : ℕ) → w ≡ x → IsThreshold w m → IsThreshold x n → m ≡ n
threshold_same w x m n e h g = decimal_injective m n h.0 g.0 (sym h.1 ∙ e ∙ g.1)

-- the second letter of a function's word tells which it is
abbrev letter : Word → ℕ
letter w = slice_index w 1

abbrev letter_of : Function → ℕ
letter_of (Sum n) = 117
letter_of (Max n) = 97
letter_of (Set n) = 101
letter_of Drop = 114

function_letter : (ws : List Word) (f : Function) → IsFunction ws f → letter (slice_index_or ws 0 []) ≡ letter_of f
function_letter ws (Sum n) (w, is, e) = ap (λ (v : List Word). letter (slice_index_or v 0 [])) e
function_letter ws (Max n) (w, is, e) = ap (λ (v : List Word). letter (slice_index_or v 0 [])) e
function_letter ws (Set n) (w, is, e) = ap (λ (v : List Word). letter (slice_index_or v 0 [])) e
function_letter ws Drop e = ap (λ (v : List Word). letter (slice_index_or v 0 [])) e

merger_letter : (w : Word) (v : ℤ) (f : Function) → IsMerger w v f → letter w ≡ letter_of f
merger_letter w v (Sum n) h = ap letter h.0
merger_letter w v (Max n) h = ap letter h.0
merger_letter w v (Set n) h = ap letter h.0
merger_letter w v Drop h = ap letter h

number_of_words : (ws vs : List Word) (w x : Word) (first : Word) (m n : ℤ) → ws ≡ vs → ws ≡ first ∷ w ∷ [] →
    vs ≡ first ∷ x ∷ [] → IsNumber w m → IsNumber x n
    → m ≡ n
number_of_words ws vs w x first m n same e d h g = number_same w x m n (cc) h g

-- words are one function
function_same : (ws vs : List Word) (f g : Function) → ws ≡ vs → letter_of f ≡ letter_of g → IsFunction ws f →
    IsFunction vs g → f ≡ g
function_same ws vs (Sum m) (Sum n) e l (w, h, d) (x, g, b) =
    ap Sum (number_of_words ws vs w x (codes "sum") m n e d b h g)
function_same ws vs (Max m) (Max n) e l (w, h, d) (x, g, b) =
    ap Max (number_of_words ws vs w x (codes "max") m n e d b h g)
function_same ws vs (Set m) (Set n) e l (w, h, d) (x, g, b) =
    ap Set (number_of_words ws vs w x (codes "set") m n e d b h g)
function_same ws vs Drop Drop e l h g = refl
function_same ws vs _ _ e l h g = absurd (omega arith)

IsFunction-same : (ws vs : List Word) (f g : Function) → ws ≡ vs → IsFunction ws f → IsFunction vs g → f ≡ g
IsFunction-same ws vs f g e h k =
    function_same ws vs f g e (sym (function_letter ws f h) ∙ ap (λ (v : List Word). letter (slice_index_or v 0 [])) e
    ∙ function_letter vs g k) h k

merger_same : (w x : Word) (u v : ℤ) (f g : Function) → u ≡ v → letter_of f ≡ letter_of g → IsMerger w u f →
    IsMerger x v g → f ≡ g
merger_same w x u v (Sum m) (Sum n) e l h g = ap Sum (h.1 ∙ e ∙ sym g.1)
merger_same w x u v (Max m) (Max n) e l h g = ap Max (h.1 ∙ e ∙ sym g.1)
merger_same w x u v (Set m) (Set n) e l h g = ap Set (h.1 ∙ e ∙ sym g.1)
merger_same w x u v Drop Drop e l h g = refl
merger_same w x u v _ _ e l h g = absurd (omega arith)

IsMerger-same : (w x : Word) (u v : ℤ) (f g : Function) → w ≡ x → u ≡ v → IsMerger w u f → IsMerger x v g → f ≡ g
IsMerger-same w x u v f g e d h k =
    merger_same w x u v f g d (sym (merger_letter w u f h) ∙ ap letter e ∙ merger_letter x v g k) h k

differ : (m n : ℕ) → m ≡ 117 → n ≡ 97 → m ≡ n → ⊥
differ m n h g e = omega arith

sum_is_not_max : (ws : List Word) (w x : Word) → ws ≡ codes "sum" ∷ w ∷ [] → ws ≡ codes "max" ∷ x ∷ [] → ⊥
sum_is_not_max ws w x e d =
    differ 117 97 refl refl (ap (λ (v : List Word). letter (slice_index_or v 0 [])) (sym e ∙ d))

-- words make one line by a form
pub Says-same : (form : Form) (ws : List Word) (line other : Line) → Says form ws line →
    Says form ws other → line ≡ other
Says-same (alone made) ws line other h g = h.1 ∙ sym g.1
Says-same (key made) ws line other (k, is, e, m) (j, js, d, n) = cc
Says-same (key_number made) ws line other (k, w, v, is, num, e, m) (j, x, u, js, mun, d, n) =
    let numbers = number_same w x v u (cc) num mun in cc
Says-same (key_numbers made) ws line other (k, w, x, u, v, is, num, more, e, m) (j, y, z, s, t, js, mun, rest, d, n) =
    let first = number_same w y u s (cc) num mun in
    let second = number_same x z v t (cc) more rest in cc
Says-same (key_function made) ws line other (k, fs, f, is, fun, e, m) (j, gs, g, js, gun, d, n) =
    let functions = IsFunction-same fs gs f g (cc) fun gun in cc
Says-same (key_merger made) ws line other (k, w, x, v, f, is, num, mer, e, m) (j, y, z, u, g, js, mun, rem, d, n) =
    let numbers = number_same w y v u (cc) num mun in
    let functions = IsMerger-same x z v u f g (cc) numbers mer rem in cc
Says-same (threshold made) ws line other (w, t, is, e, m) (x, s, js, d, n) =
    let numbers = threshold_same w x t s (cc) is js in cc
Says-same (sum_or_max sum max) ws line other (w, t, is, inl h) (x, s, js, inl g) =
    let numbers = threshold_same w x t s (cc (h.0, g.0)) is js in h.1 ∙ ap (λ (y : ℕ). ask (sum y)) numbers ∙ sym g.1
Says-same (sum_or_max sum max) ws line other (w, t, is, inr h) (x, s, js, inr g) =
    let numbers = threshold_same w x t s (cc (h.0, g.0)) is js in h.1 ∙ ap (λ (y : ℕ). ask (max y)) numbers ∙ sym g.1
Says-same (sum_or_max sum max) ws line other (w, t, is, inl h) (x, s, js, inr g) =
    absurd (sum_is_not_max ws w x h.0 g.0)
Says-same (sum_or_max sum max) ws line other (w, t, is, inr h) (x, s, js, inl g) =
    absurd (sum_is_not_max ws x w g.0 h.0)
Says-same (above made) ws line other (w, x, v, t, num, is, e, m) (y, z, u, s, mun, js, d, n) =
    let numbers = number_same w y v u (cc) num mun in
    let thresholds = threshold_same x z t s (cc) is js in cc

-- so for the forms of a place
pub Reads-same : (forms : List (Word × Form)) (ws : List Word) (line other : Line) → Reads forms ws line →
    Reads forms ws other → line ≡ other
Reads-same forms [] line other h g = absurd h
Reads-same forms (first ∷ rest) line other h g = go (form_of forms first) h g where
  go : (o : Option Form) → MatchOption o ⊥ (λ form. Says form rest line) →
      MatchOption o ⊥ (λ form. Says form rest other) → line ≡ other
  go None h g = absurd h
  go (Some form) h g = Says-same form rest line other h g

pub Reads-fits : (forms : List (Word × Form)) (ws : List Word) (line : Line) (kind : Kind) → Reads forms ws line →
    AreWrong forms ws kind → ⊥
Reads-fits forms [] line kind h g = h
Reads-fits forms (first ∷ rest) line kind h g = go (form_of forms first) h g where
  go : (o : Option Form) → MatchOption o ⊥ (λ form. Says form rest line) →
      MatchOption o (kind ≡ kinds.Word) (λ form. IsWrong (slots_of form) rest kind) → ⊥
  go None h g = h
  go (Some form) h g = Says-fits form rest line kind h g

-- the first wrong word gives one kind
IsWrong-same : (ws : List Word) (ss : List Slot) (kind other : Kind) → IsWrong ss ws kind →
    IsWrong ss ws other → kind ≡ other
IsWrong-same [] [] kind other h g = absurd h
IsWrong-same [] (s ∷ ss) kind other h g = h ∙ sym g
IsWrong-same (w ∷ ws) [] kind other h g = h ∙ sym g
IsWrong-same (w ∷ ws) (s ∷ ss) kind other (inl h) (inl g) = h.1 ∙ sym g.1
IsWrong-same (w ∷ ws) (s ∷ ss) kind other (inl h) (inr g) = absurd (h.0 g.0)
IsWrong-same (w ∷ ws) (s ∷ ss) kind other (inr h) (inl g) = absurd (g.0 h.0)
IsWrong-same (w ∷ ws) (s ∷ ss) kind other (inr h) (inr g) = IsWrong-same ws (following s w ++ ss) kind other h.1 g.1

pub AreWrong-same : (forms : List (Word × Form)) (ws : List Word) (kind other : Kind) → AreWrong forms ws kind →
    AreWrong forms ws other → kind ≡ other
AreWrong-same forms [] kind other h g = absurd h
AreWrong-same forms (first ∷ rest) kind other h g = go (form_of forms first) h g where
  go : (o : Option Form) → MatchOption o (kind ≡ kinds.Word) (λ form. IsWrong (slots_of form) rest kind)
      → MatchOption o (other ≡ kinds.Word) (λ form. IsWrong (slots_of form) rest other) → kind ≡ other
  go None h g = h ∙ sym g
  go (Some form) h g = IsWrong-same rest (slots_of form) kind other h g
