use Rattle.std.proofs.Common.{sym, subst}
use Rattle.std.proofs.lemmas.Int.{to_z-of_z}
use Rattle.std.proofs.lemmas.Result.{err_from_is_err_and}
use Rattle.script.specs.Grammar.{IsMerger}
use Rattle.script.specs.declared.function.Function.{Function}
use Rattle.script.proofs.Functions.{IsMerger-with_number, FailsFirst-merger}
use Rattle.script.proofs.words.Words.merger.Goals as goal

pub returns-clause-ok : goal.returns-clause-ok
returns-clause-ok c =
    let (w, is, parts) = c.in_ok-named.ensures.ok in
    let made = simp (to_z-of_z, c.ranges.given) at c.with_number.ensures in (
      w,
      subst (λ (f : Function). IsMerger w c.args.given f) (sym made)
          (IsMerger-with_number c.in_ok-named.named w _ c.args.given is),
      parts,
    )

pub returns-in_err-named-clause-err : goal.returns-in_err-named-clause-err
returns-in_err-named-clause-err c =
    let p = err_from_is_err_and c.from_residual.result c.from_residual.ensures.1 in
    rw (p.1, p.2) (FailsFirst-merger _ _ c.in_err-named.ensures.err)
