use Rattle.test_pool.proofs.trees.+fork_all.Given as goal

abbrev pub decreases-fork_all : goal.decreases-fork_all
decreases-fork_all l = l.level
