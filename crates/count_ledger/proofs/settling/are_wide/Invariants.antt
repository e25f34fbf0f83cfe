use Rattle.std.proofs.Common.{◌≡◌, ◌-◌, ◌/◌, take, sum_by, All}
use Rattle.hashkeys.specs.Classes.{IsClass}
use Rattle.hashkeys.specs.Limits.{most_bins}
use Rattle.count_ledger.specs.Books.{classes_of_roles}
use Rattle.count_ledger.proofs.settling.are_wide.Given as goal

abbrev pub invariant-loop-role : goal.invariant-loop-role
invariant-loop-role g l =
    record {
      left : l.left ≡ most_bins - sum_by (λ c. most_bins / c.n) (classes_of_roles (take l.role-index l.roles));
      lawful : All IsClass (classes_of_roles (take l.role-index l.roles));
    }
