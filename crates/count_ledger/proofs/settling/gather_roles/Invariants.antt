use Rattle.std.proofs.Common.{◌≡◌, vec_len, All}
use Rattle.count_ledger.specs.Steps.{only_view}
use Rattle.count_ledger.specs.Tokens.{role_book}
use Rattle.count_ledger.proofs.Gathering.{AreGathered}
use Rattle.count_ledger.proofs.settling.gather_roles.Given as goal

abbrev pub invariant-loop-role : goal.invariant-loop-role
invariant-loop-role g l =
    record {
      table : l.all.table_id ≡ l.shared.table_id;
      own : All (λ x. x.ledger ≡ l.shared.table_id) l.roles.items;
      done : AreGathered role_book l.initial.roles.items (only_view l.initial.all.views) l.roles.items l.all.views;
    }

abbrev pub decreases-loop-role : goal.decreases-loop-role
decreases-loop-role g l = vec_len l.roles
