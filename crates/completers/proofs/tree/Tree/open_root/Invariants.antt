use Rattle.completers.proofs.tree.Tree.open_root.Given as goal

abbrev pub ghosts-write_code : goal.ghosts-write_code
ghosts-write_code g a = record { fits = λ _ _ _. Unit {0}; bins = a.words.now.key.bins }
