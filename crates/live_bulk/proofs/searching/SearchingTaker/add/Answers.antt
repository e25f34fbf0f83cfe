use Rattle.std.proofs.Common.{IsTrue, [], ◌∷◌, sym, ◌∙◌}
use Rattle.bulk_tasks.proofs.Probing.{found_last}
use Rattle.live_bulk.proofs.Probes.{settled}
use Rattle.live_bulk.proofs.searching.SearchingTaker.add.Goals as goal

pub returns-in_default : goal.returns-in_default
returns-in_default g c = λ es h.
    settled (g.P.Probe.probed c.args.self.now.probe.now) g.P.Probe.never_refuses (IsTrue c.args.self.now.may_give_up) es
    ((c.args.key.now, c.args.value.now) ∷ []) c.args.part c.in_default.not-Nothing h

pub returns-in-Ok-Some : goal.returns-in-Ok-Some
returns-in-Ok-Some g c = λ es h.
    found_last (g.P.Probe.probed c.args.self.now.probe.now) es c.args.key.now c.args.value.now c.in-Ok-Some.u
    (sym c.in-Ok-Some.ensures.value ∙ c.in-Ok-Some.field-0-is)
