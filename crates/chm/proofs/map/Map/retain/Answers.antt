use Rattle.std.proofs.Common.{[], refl}
use Rattle.std.proofs.lemmas.Result.{IfErr-weaker, on_ok_weaker}
use Rattle.chm.proofs.map.Map.retain.Goals as goal

pub retain_from-requires-clause-begun : goal.retain_from-requires-clause-begun
retain_from-requires-clause-begun g c = c.cursor.ensures.begun [] refl

pub returns-clause-retained : goal.returns-clause-retained
returns-clause-retained g c =
    on_ok_weaker c.retain_from.result (λ kept. (c.cursor.result.n, kept)) c.retain_from.ensures.retained

pub returns-clause-stopped : goal.returns-clause-stopped
returns-clause-stopped g c =
    IfErr-weaker c.retain_from.result _ _ (λ e stopped. (c.cursor.result.n, stopped)) c.retain_from.ensures.stopped
