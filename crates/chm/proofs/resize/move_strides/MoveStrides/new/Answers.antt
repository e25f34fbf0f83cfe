use Rattle.bin_layout.proofs.Sizes.{size_pos, size_few}
use Rattle.chm.proofs.resize.move_strides.MoveStrides.new.Goals as goal

pub new-requires : goal.new-requires
new-requires g c = (size_pos c.args.bins c.requires.size, size_few c.args.bins c.requires.size)

pub new-requires-in-Lean-clause-bins : goal.new-requires-in-Lean-clause-bins
new-requires-in-Lean-clause-bins g c = (size_pos c.args.bins c.requires.size, size_few c.args.bins c.requires.size)
