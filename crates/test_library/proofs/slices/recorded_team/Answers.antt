use Rattle.std.proofs.Common.{sym, ◌∙◌}
use Rattle.clients.proofs.Passes.{length-new_passes}
use Rattle.test_library.proofs.slices.recorded_team.Goals as goal

pub of-requires-clause-all : goal.of-requires-clause-all
of-requires-clause-all g c = let new = c.in_ok-map.ensures.new in length-new_passes _ _ _ new.passes ∙ sym new.clients
