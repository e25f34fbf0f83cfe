use Rattle.clients.proofs.work.LentWorkSharing.work.Given as goal

abbrev pub ghosts-work_seated : goal.ghosts-work_seated
ghosts-work_seated g a = record { ledger = a.map.now.ledger.id; client = a.pass.now.client; lent = a.pass.ghost_name }
