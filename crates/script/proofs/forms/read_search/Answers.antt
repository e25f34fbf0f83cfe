use Rattle.std.proofs.Common.{List, ◌∷◌, FitsSigned, w64, refl, ap, ◌∙◌}
use Rattle.std.specs.Prelude.{codes}
use Rattle.std.proofs.lemmas.Int.{to_z-of_z}
use Rattle.script.specs.Lines.{Word}
use Rattle.script.proofs.forms.read_search.Goals as goal

pub returns-clause-ok : goal.returns-clause-ok
returns-clause-ok c =
    let (w, num, e) = c.in_ok-value.ensures.ok in
    let (x, is, d) = c.in_ok-threshold.ensures.ok in
    let fits : FitsSigned w64 c.in_ok-value.value = num.0 in
    let parts = c.in_ok-above.ensures.ok ∙ ap (λ (ws : List Word). codes "above" ∷ ws)
    (e ∙ ap (λ (ws : List Word). w ∷ ws) d) in
    simp to_z-of_z (w, x, c.in_ok-value.value, c.in_ok-threshold.threshold, num, is, parts, refl)
