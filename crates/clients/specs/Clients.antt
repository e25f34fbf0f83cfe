-- A client, as contracts see it, and a pass that it lends.
use Rattle.std.specs.Borrow.{Lends, Fml, RattleType, MutBor}
use Rattle.count_ledger.specs.Views.{PassView}
use Rattle.count_ledger.specs.contracts.tokens.Pass.{the_row}
use Rattle.chm.specs.Views.{MapView}

-- a map, and a pass of it
pub record ClientView (K V F : Type 0) : Type 0 where
  pub map : MapView K V
  pub pass : PassView K V F

-- once the borrow r ends, the seat has the pass that was left behind r
abbrev pub LendsPass : (S K V F : RattleType) → MutBor S.Denot → MutBor (PassView K.Denot V.Denot F.Denot)
    → (PassView K.Denot V.Denot F.Denot → S.Denot) → Fml
LendsPass S K V F seat r with_pass = Lends S (the_row K V F) seat r with_pass
