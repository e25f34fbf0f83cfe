use Rattle.steal_pool.proofs.pool.try_run.Given as goal

abbrev pub ghosts-run_tree : goal.ghosts-run_tree
ghosts-run_tree g a = record { tree = a.tree.now.identity; bins = a.tree.now.bins }
