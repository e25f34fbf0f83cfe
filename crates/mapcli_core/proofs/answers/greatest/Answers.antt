use Rattle.std.proofs.Common.{map, sym, subst}
use Rattle.chm.specs.Headline.{entries_of}
use Rattle.mapcli_core.specs.Texts.{IsGreatest}
use Rattle.mapcli_core.proofs.Reduced.{greatest-folded}
use Rattle.mapcli_core.proofs.answers.greatest.Goals as goal

pub returns : goal.returns
returns g c = subst (IsGreatest (map (λ e. e.1) (entries_of c.args.quiet.now.bins))) (sym c.in-Ok.ensures.fold)
    (greatest-folded (entries_of c.args.quiet.now.bins))
