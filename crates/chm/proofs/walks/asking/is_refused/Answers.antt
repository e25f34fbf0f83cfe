use mathlib.Core.Bool.{not}
use Rattle.std.proofs.Common.{◌≡◌, Bool, true, false, cond, List, [], ◌∷◌, refl, sym, subst, ◌∙◌}
use Rattle.std.proofs.lemmas.Bool.{false≢true}
use Rattle.chm.specs.Retained.{HasKeptAll, SaysAt}
use Rattle.chm.proofs.walks.asking.is_refused.Goals as goal

no : (b : Bool) → not b ≡ true → b ≡ false
no false is = refl
no true is = absurd (false≢true is)

yes : (b : Bool) → not b ≡ false → b ≡ true
yes false is = absurd (false≢true (sym is))
yes true is = refl

pub returns-then-not-is_of_class-clause-kept : goal.returns-then-not-is_of_class-clause-kept
returns-then-not-is_of_class-clause-kept g c = λ _.
    subst (λ (b : Bool). HasKeptAll (goal.G-step g) c.args.keeps.now (cond b (c.args.entry.now ∷ []) []) c.args.keeps.now)
    (sym c.if-not-is_of_class.true ∙ c.is_of_class.ensures) refl

pub returns-clause-of : goal.returns-clause-of
returns-clause-of g c = λ _. sym c.is_of_class.ensures ∙ c.if-not-is_of_class.false

pub returns-clause-said : goal.returns-clause-said
returns-clause-said g c is = rw (no c.said_of.result is) at c.said_of.ensures.said

pub returns-clause-kept : goal.returns-clause-kept
returns-clause-kept g c is =
    subst (λ (b : Bool). HasKeptAll (goal.G-step g) c.args.keeps.now (cond b (c.args.entry.now ∷ []) []) c.said_of.new.keeps)
    (sym c.if-not-is_of_class.false ∙ c.is_of_class.ensures)
    (c.said_of.new.keeps, rw (yes c.said_of.result is) at c.said_of.ensures.said, refl)
