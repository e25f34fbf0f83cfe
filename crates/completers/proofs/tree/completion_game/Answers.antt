use Rattle.completers.proofs.Games.{one_last}
use Rattle.completers.proofs.tree.completion_game.Goals as goal

pub returns : goal.returns
returns c = one_last
