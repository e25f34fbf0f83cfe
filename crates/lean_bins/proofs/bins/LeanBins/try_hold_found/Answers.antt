use Rattle.std.proofs.Common.{rules}
use Rattle.lean_bins.proofs.SlotRefs.{some_then, covers_at}
use Rattle.lean_bins.proofs.bins.LeanBins.try_hold_found.Goals as goal

pub returns-clause-covers : goal.returns-clause-covers
returns-clause-covers g c = some_then c.try_at.result _ _
    (λ t is. covers_at t.class c.args.hash c.find-index.result.0 c.in-Present.exponent is (search rules))
    c.try_at.ensures.class
