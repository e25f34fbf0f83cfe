use Rattle.std.proofs.Common.{rules}
use Rattle.facing.proofs.exchanges.facing_c_try_exchange.Goals as goal
use Rattle.facing.proofs.exchanges.facing_c_try_exchange.Goals.{in-Some, in-None}

pub returns-clause-told : goal.returns-clause-told
returns-clause-told c = elim c.match-into_box.branch [
  | in-Some w ↦ let changed = rw c.exchange_of-exchange.ensures at w.try_number-asked.ensures in search (rules, changed)
  | in-None w ↦ search rules
]
