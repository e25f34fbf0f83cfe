use Rattle.transfer.proofs.strides.Strides.finish.Given as goal

abbrev pub ghosts-finish_range : goal.ghosts-finish_range
ghosts-finish_range g a = record { range = a.range }
