use Rattle.std.proofs.Common.{◌∙◌, FitsSigned, rules}
use Rattle.std.proofs.lemmas.Int.{to_z-of_z}
use Rattle.std.specs.Int.{w128}
use Rattle.chm.specs.Headline.{entries_of}
use Rattle.mapcli_core.proofs.Reduced.{sum-folded}
use Rattle.mapcli_core.proofs.answers.sum_of.Goals as goal

pub returns : goal.returns
returns g c =
    let fits : FitsSigned w128 c.in-Ok.sum = search rules in
    simp (to_z-of_z, fits) (c.in-Ok.ensures.fold ∙ sum-folded (entries_of c.args.quiet.now.bins))
