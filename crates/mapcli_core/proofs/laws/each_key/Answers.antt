use Rattle.bin_history.specs.Cells.{records_on}
use Rattle.mapcli_core.specs.Outcomes.{same_key}
use Rattle.mapcli_core.proofs.EachKey.{IsHistoryOf-order}
use Rattle.mapcli_core.proofs.laws.each_key.Goals as goal

pub returns : goal.returns
returns c = λ blocks o k allowed. let (calls, order) = allowed.order in
    (records_on same_key k calls, IsHistoryOf-order blocks o k calls order)
