use Rattle.example_tour.proofs.moment.run.Given as goal

abbrev pub ghosts-find : goal.ghosts-find
ghosts-find g a = record { ledger = a.team.now.map.ledger.id; told = λ _. Unit {0} }
