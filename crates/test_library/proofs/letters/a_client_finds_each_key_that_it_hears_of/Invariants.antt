use Rattle.test_library.proofs.letters.a_client_finds_each_key_that_it_hears_of.Given as goal

abbrev pub ghosts-tell : goal.ghosts-tell
ghosts-tell g a = record { ledger = a.team.now.map.ledger.id; told = λ _. Unit {0} }
