-- What is told where no task is left.
use Rattle.std.proofs.Common.{◌≡◌, ℕ, List, [], ◌∷◌, length, Option, Some, None, refl, subst, ◌∙◌, arith}
use Rattle.std.specs.Prelude.{IfSome}
use Rattle.steal_pool.specs.declared.finished.Tasks.{Tasks}
use Rattle.steal_pool.specs.declared.member.Member.{Member}
use Rattle.steal_pool.specs.Books.{AreCounted, AreSettled, IsSettled}
use Rattle.steal_pool.specs.Logs.{weigh}

none_weighs : {T : Type 0} (h : T → ℕ) (xs : List T) → length xs ≡ 0 → weigh h xs ≡ 0
none_weighs h [] none = refl
none_weighs h (x ∷ xs) none = absurd (omega arith)

pub told_settled : {T A S : Type 0} {g : _} (ms : List (Member T A S g)) (left : ℕ) (counted told : Option Tasks)
    → IfSome counted (AreCounted ms) → IsSettled ms left → IfSome told (λ t. counted ≡ Some t)
    → IfSome told (λ _. left ≡ 0) → IfSome told AreSettled
told_settled ms left counted None all books same none = tt
told_settled ms left counted (Some t) all books same none =
    let mine : AreCounted ms t = subst (λ o. IfSome o (AreCounted ms)) same all in
    let nothing : weigh (λ _. 1) books.0 ≡ 0 = none_weighs (λ _. 1) books.0 (books.1 ∙ none) in
    omega (arith, mine.0, mine.1, books.2 (λ _. 1), nothing)
