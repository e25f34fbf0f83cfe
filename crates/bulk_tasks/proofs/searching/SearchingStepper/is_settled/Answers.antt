use Rattle.std.proofs.Common.{IsTrue}
use Rattle.bulk_tasks.proofs.Probing.{settled}
use Rattle.bulk_tasks.proofs.searching.SearchingStepper.is_settled.Goals as goal

pub returns-in_default : goal.returns-in_default
returns-in_default g c = λ t es fs h.
    settled (g.P.Probe.probed c.args.self.now.probe.now) g.P.Probe.never_refuses
    (IsTrue c.args.self.now.may_give_up) es fs c.args.part.now c.in_default.not-Nothing h
