use Rattle.std.proofs.Common.{List, All, length, drop, sym, subst, ◌∙◌}
use Rattle.count_ledger.specs.Fronts.{BeginsWith}
use Rattle.count_ledger.specs.Views.{PassView}
use Rattle.clients.proofs.Passes.{restored}
use Rattle.live_maps.proofs.ordered.take_some.Goals as goal

pub returns-clause-told : goal.returns-clause-told
returns-clause-told g c =
    let told = c.tell_each.new.passes in
    let whole = restored told (drop (length told) c.in-Ok.passes.items) c.in-Ok.passes.len
    (c.tell_each.ensures.len ∙ c.deref_mut.ensures.len) in
    subst (λ (ps : List (PassView _ _ _)). All (λ p. BeginsWith p.seen c.args.moment.now.seen) ps) (sym whole)
    c.tell_each.ensures.told
