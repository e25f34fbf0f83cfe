use Rattle.test_library.proofs.letters.a_letter_is_left_under_a_lock.Given as goal

abbrev pub ghosts-mail : goal.ghosts-mail
ghosts-mail g a = record { ledger = a.team.now.map.ledger.id; told = λ _. Unit {0} }
