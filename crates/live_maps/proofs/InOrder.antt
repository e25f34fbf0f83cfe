-- Passes that come back to a team.
use Rattle.std.proofs.Common.{◌≡◌, List, length, ◌∙◌, arith}
use Rattle.count_ledger.specs.Views.{PassView}
use Rattle.chm.specs.Shares.{AreSameClients}
use Rattle.clients.specs.Teams.{AreInOrder}

-- where at each place is a pass of the client that was there, they stand in order still
pub AreInOrder-same : {K V F : Type 0} (old new : List (PassView K V F)) → length new ≡ length old →
    AreSameClients old new → AreInOrder old → AreInOrder new
AreInOrder-same old new len same ordered = λ i p lt. same i p (omega arith) ∙ ordered i p (omega arith)
