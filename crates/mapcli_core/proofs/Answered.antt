-- The answers of queries, one query further.
use Rattle.std.proofs.Common.{ℕ, ℤ, ◌++◌, List, [], ◌∷◌, refl, sym, ap, ◌∙◌, append_assoc}
use Rattle.std.proofs.lemmas.List.{append-nil}
use Rattle.script.specs.declared.script.Query.{Query}
use Rattle.mapcli_core.specs.Texts.{Answers, AnswersAll}

pub AnswersAll-push : (pairs : List (List ℕ × ℤ)) (qs : List Query) (q : Query) (answers answer : List ℕ) →
    AnswersAll pairs qs answers → Answers pairs q answer
    → AnswersAll pairs (qs ++ q ∷ []) (answers ++ answer)
AnswersAll-push pairs [] q answers answer none last =
    (answer, [], last, refl, ap (λ (t : List ℕ). t ++ answer) none ∙ sym (append-nil answer))
AnswersAll-push pairs (p ∷ qs) q answers answer (first, rest, here, more, is) last = (
  first,
  rest ++ answer,
  here,
  AnswersAll-push pairs qs q rest answer more last,
  ap (λ (t : List ℕ). t ++ answer) is ∙ append_assoc first rest answer,
)
