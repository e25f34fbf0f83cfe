use Rattle.count_ledger.proofs.Totals.{total_made-settled, count-settled}
use Rattle.count_ledger.proofs.laws.totals_of_all.Goals as goal

pub returns-clause-deltas : goal.returns-clause-deltas
returns-clause-deltas g c = total_made-settled g.K.HashKey.code

pub returns-clause-count : goal.returns-clause-count
returns-clause-count g c = count-settled g.K.HashKey.code
