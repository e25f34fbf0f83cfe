-- A bin and its role agree.
use Rattle.std.specs.Prelude.{◌≡◌, ℕ, Bool, Option}
use Rattle.hashkeys.specs.Classes.{ClassView, is_of}
use Rattle.bin_history.specs.Part.{part_of_entries, part_of_records}
use Rattle.bin_history.specs.Lawful.{BinView}
use Rattle.bin_history.specs.Histories.{HasHistory}
use Rattle.bin_history.specs.declared.call.Call.{Call}
use Rattle.count_ledger.specs.Views.{RoleView}

-- they have one class and one salt, and the bin is what the role's records made of its opening pairs
pub record BinAgrees {K V F : Type 0} (same_key : K → K → Bool) (after : Call K V F → Option V → Option V)
    (b : BinView K V F) (r : RoleView K V F) :
    Type 0 where
  pub class : b.class ≡ r.class
  pub salt : b.salt ≡ r.salt
  pub history : HasHistory same_key after r.opening r.kept b

-- the part of a role in a class
abbrev pub part_of_role : {K V F : Type 0} → (K → ℕ) → ClassView → RoleView K V F → RoleView K V F
part_of_role code class r =
    record r {
      class = class;
      opening = part_of_entries (is_of code r.salt class) r.opening;
      kept = part_of_records (is_of code r.salt class) r.kept;
    }
