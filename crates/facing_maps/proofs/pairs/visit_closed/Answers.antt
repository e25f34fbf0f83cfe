use Rattle.std.proofs.Common.{subst}
use Rattle.chm.specs.Headline.{QuietView}
use Rattle.facing_maps.specs.Pairs.{IsClosedSeen}
use Rattle.facing_maps.proofs.pairs.visit_closed.Goals as goal

pub returns : goal.returns
returns g c = subst (λ (q : QuietView g.row.K.Denot g.row.V.Denot g.row.F.Denot). IsClosedSeen q.bins c.args.at c.visit_of.result)
    c.quiet.ensures c.visit_of.ensures
