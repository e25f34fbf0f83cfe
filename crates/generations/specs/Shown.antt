-- What a claim to read sees.
use Rattle.std.specs.Prelude.{Option, Some, None}
use Rattle.bin_history.specs.Lawful.{BinView}
use Rattle.count_ledger.specs.Views.{RoleView}
use Rattle.generations.specs.declared.state.State.{State}
use Rattle.generations.specs.declared.state.State.TheVariants.{Live, Away}

-- the bin and its role, if there is one
abbrev pub pair_in : {K V F A : Type 0} → State K V F A → Option (BinView K V F × RoleView K V F)
pair_in (Live r b) = Some (b, r)
pair_in Away = None

abbrev pub pair_shown : {K V F A : Type 0} → Option (State K V F A) → Option (BinView K V F × RoleView K V F)
pair_shown (Some s) = pair_in s
pair_shown None = None
