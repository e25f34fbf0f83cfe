use Rattle.std.proofs.lemmas.Int.{to_z-of_z}
use Rattle.chm.specs.Headline.{entries_of}
use Rattle.mapcli_core.proofs.Reduced.{above-searched}
use Rattle.mapcli_core.proofs.answers.above.Goals as goal

pub returns : goal.returns
returns g c = above-searched c.args.bound (entries_of c.args.quiet.now.bins) c.in-Ok.found
    (simp (to_z-of_z, c.ranges.bound) at c.in-Ok.ensures.found)
