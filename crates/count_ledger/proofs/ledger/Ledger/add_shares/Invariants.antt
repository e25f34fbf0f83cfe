use Rattle.std.proofs.Common.{◌≡◌, take, All}
use Rattle.count_ledger.specs.Books.{IsPassOf}
use Rattle.count_ledger.specs.Words.{word_of, total_made}
use Rattle.count_ledger.proofs.ledger.Ledger.add_shares.Given as goal

abbrev pub invariant-loop-i : goal.invariant-loop-i
invariant-loop-i g l =
    record {
      total : l.total ≡ word_of (total_made (take l.i l.passes));
      sound : All (IsPassOf l.self) (take l.i l.passes);
      same : l.passes ≡ l.initial.passes;
    }
