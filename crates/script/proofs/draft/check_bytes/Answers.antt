use Rattle.std.proofs.Common.{◌≡◌, ◌==◌, length, sym, ◌∙◌, inr, refl, rules, tests}
use Rattle.std.specs.List.{list_any}
use Rattle.std.proofs.lemmas.Iterator.Search.{any_from_yields_List}
use Rattle.std.proofs.lemmas.Iterator.Splits.{YieldsList-from_slice_split}
use Rattle.script.specs.Lines.{words}
use Rattle.script.proofs.Parts.{IsSpaced-from_test, not_spaced}
use Rattle.script.proofs.draft.check_bytes.Goals as goal

pub returns-then-any-clause-err : goal.returns-then-any-clause-err
returns-then-any-clause-err c =
    let tested : c.any.result ≡ list_any (λ w. length w == 0) (words c.args.line.now) =
    any_from_yields_List (λ w. length w == 0) _ _ c.any.result c.any.ensures.ran
    (YieldsList-from_slice_split _ (λ b. b == 32) c.args.line.now
    c.split.ensures.rest c.split.ensures.done c.split.ensures.closure (λ x b q k. search (rules, tests)))
    (λ x b q k. search (rules, tests))
    in
    inr (search rules, (not_spaced c.args.line.now (sym tested ∙ c.if-any.true), refl))

pub returns-clause-spaced : goal.returns-clause-spaced
returns-clause-spaced c =
    let tested : c.any.result ≡ list_any (λ w. length w == 0) (words c.args.line.now) =
    any_from_yields_List (λ w. length w == 0) _ _ c.any.result c.any.ensures.ran
    (YieldsList-from_slice_split _ (λ b. b == 32) c.args.line.now
    c.split.ensures.rest c.split.ensures.done c.split.ensures.closure (λ x b q k. search (rules, tests)))
    (λ x b q k. search (rules, tests))
    in
    IsSpaced-from_test c.args.line.now (sym tested ∙ c.if-any.false)
