use Rattle.bin_layout.proofs.walk.+next_in_walk.Given as goal

abbrev pub decreases-next_in_walk : goal.decreases-next_in_walk
decreases-next_in_walk l = l.class.n
