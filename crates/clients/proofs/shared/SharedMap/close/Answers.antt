use Rattle.clients.proofs.Kept.{kept-shared}
use Rattle.clients.proofs.shared.SharedMap.close.Goals as goal

pub returns-clause-kept : goal.returns-clause-kept
returns-clause-kept g c =
    kept-shared _ _ _ _ _ c.close.result c.in_ok-unshare.ensures.map c.close.ensures.kept c.close.ensures.shared
