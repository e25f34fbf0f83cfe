use Rattle.std.proofs.Common.{arith}
use Rattle.transfer.proofs.Moves.{holds-finishes}
use Rattle.transfer.proofs.strides.finish_range.Goals as goal

pub fetch_add-requires : goal.fetch_add-requires
fetch_add-requires g c = (
  c.requires.table.0,
  omega arith,
  rw (c.width.ensures, c.requires.picked)
      (holds-finishes c.args.words.now.key c.requires.few _ _ _ c.args.range c.requires.claimed c.requires.unfinished),
)
