use Rattle.std.proofs.Common.{List, All, subst}
use Rattle.count_ledger.specs.Fronts.{BeginsWith}
use Rattle.count_ledger.specs.Views.{PassView}
use Rattle.live_maps.proofs.ordered.bring_all.Goals as goal

pub returns-clause-heard : goal.returns-clause-heard
returns-clause-heard g c =
    subst (λ (ps : List (PassView _ _ _)). All (λ p. BeginsWith c.hear_each.new.moment.seen p.seen) ps)
    c.deref_mut.ensures.value c.hear_each.ensures.heard
