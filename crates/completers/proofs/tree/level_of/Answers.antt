use Rattle.completers.proofs.Sizes.{power}
use Rattle.completers.proofs.tree.level_of.Goals as goal

pub returns : goal.returns
returns c = power c.args.nodes c.requires.0 c.requires.1 c.requires.2
