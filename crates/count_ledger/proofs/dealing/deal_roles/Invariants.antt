use Rattle.std.proofs.Common.{◌≡◌, ◌-◌, ◌≤◌, ◌++◌, ◌∷◌, [], map, vec_len, vec_capacity}
use Rattle.std.specs.List.{range_with_len}
use Rattle.count_ledger.specs.Opening.{new_role}
use Rattle.count_ledger.specs.Rule.{new_pass_book, new_role_book}
use Rattle.count_ledger.proofs.dealing.deal_roles.Given as goal

abbrev pub invariant-loop-index : goal.invariant-loop-index
invariant-loop-index g l =
    record {
      roles : l.roles.items ≡ map (new_role l.initial.all.table_id l.shared.key.salt l.shared.key.bases)
          (range_with_len 0 l.index);
      room : l.n ≤ vec_capacity l.roles;
      len : vec_len l.roles ≡ l.index;
      table : l.all.table_id ≡ l.initial.all.table_id;
      view : l.all.views ≡ (map (new_role_book l.shared.key) (range_with_len l.index (l.n - l.index))
          ++ map new_pass_book (range_with_len 0 l.shared.key.clients)) ∷ [];
    }
