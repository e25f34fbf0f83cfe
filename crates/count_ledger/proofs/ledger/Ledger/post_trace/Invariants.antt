use Rattle.std.proofs.Common.{Some}
use Rattle.count_ledger.specs.Steps.{books_with_record}
use Rattle.count_ledger.proofs.ledger.Ledger.post_trace.Given as goal

abbrev pub ghosts-add_delta : goal.ghosts-add_delta
ghosts-add_delta g a = record { terms = Some a.shared.now.key; change = books_with_record a.entry.now }
