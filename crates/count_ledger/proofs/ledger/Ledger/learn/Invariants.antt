use Rattle.std.proofs.Common.{Some}
use Rattle.count_ledger.specs.Steps.{books_seeing}
use Rattle.count_ledger.proofs.ledger.Ledger.learn.Given as goal

abbrev pub ghosts-look : goal.ghosts-look
ghosts-look g a = record { terms = Some a.shared.now.key; change = books_seeing }
