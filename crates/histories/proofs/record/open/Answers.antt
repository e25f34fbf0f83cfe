use Rattle.std.proofs.Common.{sym, ◌∙◌}
use Rattle.clients.proofs.Passes.{in-order-new, length-new_passes}
use Rattle.histories.proofs.record.open.Goals as goal

pub of-requires-clause-all : goal.of-requires-clause-all
of-requires-clause-all c = let new = c.in_ok-map-in-Recorded.ensures.new in length-new_passes _ _ _ new.passes ∙ sym new.clients

pub of-requires-clause-in_order : goal.of-requires-clause-in_order
of-requires-clause-in_order c = in-order-new _ _ _ c.in_ok-map-in-Recorded.ensures.new.passes
