use Rattle.lean_bins.proofs.SlotRefs.{some_then, covers_at, index_few}
use Rattle.lean_bins.proofs.bins.LeanBins.try_hold_widest.Goals as goal

pub slot_ref-requires : goal.slot_ref-requires
slot_ref-requires g c =
    index_few c.widest-exponent.result c.index_among-index.result c.widest-exponent.ensures c.index_among-index.ensures.below

pub returns-clause-covers : goal.returns-clause-covers
returns-clause-covers g c = some_then c.try_at.result _ _
    (λ t is. covers_at t.class c.args.hash c.index_among-index.result c.widest-exponent.result is
    c.index_among-index.ensures.value)
    c.try_at.ensures.class
