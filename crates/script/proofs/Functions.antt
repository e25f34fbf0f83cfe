-- The words of functions.
use Rattle.std.proofs.Common.{◌≡◌, ◌≢◌, ℕ, ℤ, ◌<◌, inl, inr, List, [], ◌∷◌, Contains, slice_index_or, refl, sym, ◌∙◌}
use Rattle.std.proofs.Common.{subst, arith}
use Rattle.std.specs.Prelude.{codes}
use Rattle.script.specs.Functions.{with_number}
use Rattle.script.specs.Lines.{Word, IsNumber}
use Rattle.script.specs.Grammar.{IsFunction, IsMerger}
use Rattle.script.specs.Faults.{Slot, a_function, a_merger, a_number, function_words, Fits, IsWrong, FailsFirst}
use Rattle.script.specs.Faults.{FailsAt}
use Rattle.script.specs.declared.function.Function.{Function}
use Rattle.script.specs.declared.function.Function.TheVariants.{Sum, Max, Set, Drop}
use Rattle.script.specs.declared.fault.Kind.{Kind}

-- a word of the list of functions' words, by its place there
pub named : (k : ℕ) (w : Word) → k < 4 → slice_index_or function_words k w ≡ w → Contains function_words w
named k w l e = (k, l, e)

pub IsMerger-fits : (f : Function) (w : Word) (v : ℤ) → IsMerger w v f → Fits a_merger w
IsMerger-fits (Sum n) w v h = subst (Contains function_words) (sym h.0) (named 0 (codes "sum") (omega arith) refl)
IsMerger-fits (Max n) w v h = subst (Contains function_words) (sym h.0) (named 1 (codes "max") (omega arith) refl)
IsMerger-fits (Set n) w v h = subst (Contains function_words) (sym h.0) (named 2 (codes "set") (omega arith) refl)
IsMerger-fits Drop w v h = subst (Contains function_words) (sym h) (named 3 (codes "drop") (omega arith) refl)

-- the word, and then a number where the function has one
pub IsFunction-with_number : (f : Function) (w x : Word) (u n : ℤ) → IsMerger w u f → f ≢ Drop → IsNumber x n →
    IsFunction (w ∷ x ∷ []) (with_number f n)
IsFunction-with_number (Sum m) w x u n h some is = (x, is, λ i. h.0 i ∷ x ∷ [])
IsFunction-with_number (Max m) w x u n h some is = (x, is, λ i. h.0 i ∷ x ∷ [])
IsFunction-with_number (Set m) w x u n h some is = (x, is, λ i. h.0 i ∷ x ∷ [])
IsFunction-with_number Drop w x u n h some is = absurd (some refl)

pub IsMerger-with_number : (f : Function) (w : Word) (u n : ℤ) → IsMerger w u f → IsMerger w n (with_number f n)
IsMerger-with_number (Sum m) w u n h = (h.0, refl)
IsMerger-with_number (Max m) w u n h = (h.0, refl)
IsMerger-with_number (Set m) w u n h = (h.0, refl)
IsMerger-with_number Drop w u n h = h

wrong_at : (ss : List Slot) (kind : Kind) (old : List Word) (w : Word) (new : List Word) (name : Word) →
    old ≡ w ∷ new → w ≡ name
    → IsWrong (a_function ∷ ss) (name ∷ new) kind → IsWrong (a_function ∷ ss) old kind
wrong_at ss kind old w new name e h wrong = subst (λ (ws : List Word). IsWrong (a_function ∷ ss) ws kind)
    (sym (e ∙ (λ i. h i ∷ new))) wrong

-- where its number is wrong, the function is
pub FailsAt-number : (f : Function) (old new : List Word) (w : Word) (u : ℤ) (kind : Kind) → IsMerger w u f →
    f ≢ Drop → old ≡ w ∷ new
    → FailsAt a_number new kind → FailsAt a_function old kind
FailsAt-number (Sum m) old new w u kind h some e wrong = λ ss. wrong_at ss kind old w new (codes "sum") e h.0
    (inr ((0, omega arith, refl), wrong ss))
FailsAt-number (Max m) old new w u kind h some e wrong = λ ss. wrong_at ss kind old w new (codes "max") e h.0
    (inr ((1, omega arith, refl), wrong ss))
FailsAt-number (Set m) old new w u kind h some e wrong = λ ss. wrong_at ss kind old w new (codes "set") e h.0
    (inr ((2, omega arith, refl), wrong ss))
FailsAt-number Drop old new w u kind h some e wrong = absurd (some refl)

pub FailsFirst-merger : (ws : List Word) (kind : Kind) → FailsFirst a_function ws kind → FailsAt a_merger ws kind
FailsFirst-merger [] kind h = λ ss. h
FailsFirst-merger (w ∷ ws) kind h = λ ss. inl h
