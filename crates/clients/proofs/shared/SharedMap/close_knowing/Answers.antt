use Rattle.clients.proofs.Kept.{kept-shared}
use Rattle.clients.proofs.shared.SharedMap.close_knowing.Goals as goal

pub returns-clause-kept : goal.returns-clause-kept
returns-clause-kept g c =
    kept-shared _ _ _ _ _ c.close_knowing.result c.in_ok-unshare.ensures.map c.close_knowing.ensures.kept c.close_knowing.ensures.shared
