use Rattle.std.proofs.Common.{subst}
use Rattle.bin_history.specs.Calls.{after}
use Rattle.chm.specs.Headline.{IsQuiet, QuietView}
use Rattle.chm.proofs.closed.quiet.Quiet.lawful.Goals as goal

pub returns : goal.returns
returns g c =
    let Whole : QuietView _ _ _ → Type 0 =
    λ q. IsQuiet g.K.PartialEq.eq g.K.HashKey.code (after g.V.PartialEq.eq g.F.Remap.remapped g.F.Remap.merged) q in
    subst Whole c.self.view_is c.self.invariant.0
