use Rattle.std.proofs.Common.{Some}
use Rattle.count_ledger.proofs.ledger.Ledger.peek.Given as goal

abbrev pub ghosts-look : goal.ghosts-look
ghosts-look g a = record { terms = Some a.shared.now.key; change = λ calls books. books }
