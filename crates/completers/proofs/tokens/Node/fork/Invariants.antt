use Rattle.completers.proofs.tokens.Node.fork.Given as goal

abbrev pub ghosts-count_up : goal.ghosts-count_up
ghosts-count_up g a = record { mid = a.mid }
