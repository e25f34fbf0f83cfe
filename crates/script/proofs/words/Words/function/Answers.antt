use Rattle.std.proofs.Common.{List, [], ◌∷◌, FitsSigned, w64, sym, ap, ◌∙◌, subst}
use Rattle.std.proofs.lemmas.Int.{to_z-of_z}
use Rattle.std.proofs.lemmas.Result.{err_from_is_err_and}
use Rattle.script.specs.Lines.{Word}
use Rattle.script.specs.Grammar.{IsFunction}
use Rattle.script.specs.declared.function.Function.{Function}
use Rattle.script.proofs.Functions.{IsFunction-with_number, FailsAt-number}
use Rattle.script.proofs.words.Words.function.Goals as goal

pub returns-in_ok-number-in_default : goal.returns-in_ok-number-in_default
returns-in_ok-number-in_default c =
    let (w, is, parts) = c.in_ok-named.ensures.ok in
    let (x, num, more) = c.in_ok-number-in_default.ensures.ok in
    let fits : FitsSigned w64 c.in_ok-number-in_default.number = num.0 in
    let made = simp to_z-of_z at c.with_number.ensures in
    let whole = IsFunction-with_number c.in_ok-named.named w x _ _ is c.in_default.not-Drop num in
    record {
      ok = (
        w ∷ x ∷ [],
        subst (λ (f : Function). IsFunction (w ∷ x ∷ []) f) (sym made) whole,
        parts ∙ ap (λ (vs : List Word). w ∷ vs) more,
      );
      err = tt;
    }

pub returns-in_err-number-in_default : goal.returns-in_err-number-in_default
returns-in_err-number-in_default c =
    let p = err_from_is_err_and c.from_residual-in_err-number-in_default.result
    c.from_residual-in_err-number-in_default.ensures.1 in
    let (w, is, parts) = c.in_ok-named.ensures.ok in
    rw (p.1, p.2)
    (record {
      ok = tt;
      err =
          FailsAt-number c.in_ok-named.named _ _ w _ _ is c.in_default.not-Drop parts
          c.in_err-number-in_default.ensures.err;
    })
