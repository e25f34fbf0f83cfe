use Rattle.std.proofs.Common.{◌≡◌}
use Rattle.test_bins.proofs.ledgers.put_often.Given as goal

abbrev pub invariant-loop-time : goal.invariant-loop-time
invariant-loop-time g l =
    record {
      pass : l.pass.ledger ≡ l.ledger.id;
      role : l.bin.ledger ≡ l.ledger.id;
    }
