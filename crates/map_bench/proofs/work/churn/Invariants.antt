use Rattle.std.proofs.Common.{◌≡◌}
use Rattle.map_bench.proofs.work.churn.Given as goal

abbrev pub invariant-loop-i : goal.invariant-loop-i
invariant-loop-i g l = l.pass.ledger ≡ l.initial.pass.ledger
