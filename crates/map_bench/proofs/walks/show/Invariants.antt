use Rattle.std.proofs.Common.{◌≡◌}
use Rattle.map_bench.proofs.walks.show.Given as goal

abbrev pub invariant-loop : goal.invariant-loop
invariant-loop g l = l.pass.ledger ≡ l.initial.pass.ledger
