use Rattle.test_pool.proofs.trees.+fill.Given as goal

abbrev pub decreases-fill : goal.decreases-fill
decreases-fill l = l.level
