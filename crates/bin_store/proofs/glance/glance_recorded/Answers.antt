use Rattle.std.proofs.Common.{◌∙◌}
use Rattle.bin_history.specs.Calls.{after}
use Rattle.bin_layout.proofs.Openings.{if_ok_then}
use Rattle.bin_store.proofs.Glances.{IsGlanced-shown}
use Rattle.bin_store.proofs.glance.glance_recorded.Goals as goal

pub returns-clause-glanced : goal.returns-clause-glanced
returns-clause-glanced g c = if_ok_then c.copy_of_option-value.result
    (λ value is. IsGlanced-shown g.K.PartialEq.eq g.K.HashKey.code
    (after g.V.PartialEq.eq g.F.Remap.remapped g.F.Remap.merged) c.args.home.now c.args.hash (g.Q.AsKey.stands_for c.args.query) value
    c.bin.result.now c.read-shown.result c.read-shown.ensures.covers c.read-shown.ensures.with_role c.bin.ensures
    (is ∙ c.get_as.ensures))
    c.copy_of_option-value.ensures.copy
