use Rattle.mapcli_core.proofs.Crossed.{crossed-never}
use Rattle.mapcli_core.proofs.laws.no_crossed_misses.Goals as goal

pub returns : goal.returns
returns c = crossed-never
