use Rattle.std.proofs.Common.{refl, sym, ◌∙◌}
use Rattle.bin_history.proofs.Lawful.{recorded_is_not_lean}
use Rattle.chm.proofs.calls.modify.ModifyingAsAtKey.by_value.Goals as goal

pub returns-clause-fails : goal.returns-clause-fails
returns-clause-fails g c = (refl, λ lean. recorded_is_not_lean (sym c.requires.recorded ∙ lean))
