use Rattle.std.proofs.Common.{◌≡◌, vec_len, All}
use Rattle.count_ledger.specs.Steps.{only_view}
use Rattle.count_ledger.specs.Tokens.{pass_book}
use Rattle.count_ledger.proofs.Gathering.{AreGathered}
use Rattle.count_ledger.proofs.settling.gather_passes.Given as goal

abbrev pub invariant-loop-pass : goal.invariant-loop-pass
invariant-loop-pass g l =
    record {
      table : l.all.table_id ≡ l.shared.table_id;
      own : All (λ x. x.ledger ≡ l.shared.table_id) l.passes.items;
      done : AreGathered pass_book l.initial.passes.items (only_view l.initial.all.views) l.passes.items l.all.views;
    }

abbrev pub decreases-loop-pass : goal.decreases-loop-pass
decreases-loop-pass g l = vec_len l.passes
