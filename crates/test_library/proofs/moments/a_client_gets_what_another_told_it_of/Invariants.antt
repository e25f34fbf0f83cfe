use Rattle.test_library.proofs.moments.a_client_gets_what_another_told_it_of.Given as goal

abbrev pub ghosts-tell : goal.ghosts-tell
ghosts-tell g a = record { ledger = a.team.now.map.ledger.id; told = λ _. Unit {0} }
