use Rattle.std.proofs.Common.{IsTrue}
use Rattle.bulk_tasks.proofs.Probing.{found_left, found_right}
use Rattle.live_bulk.proofs.Probes.{after_nothing}
use Rattle.live_bulk.proofs.searching.SearchingStepper.append.Goals as goal

pub returns-in-Found-clause-reached : goal.returns-in-Found-clause-reached
returns-in-Found-clause-reached g c = λ es fs h k.
    let l = rw c.in-Found.is at h in found_left (g.P.Probe.probed c.args.self.now.probe.now) es fs _ l

pub returns-in-Nothing-clause-reached : goal.returns-in-Nothing-clause-reached
returns-in-Nothing-clause-reached g c = λ es fs h k.
    let l = rw c.in-Nothing.is at h in
    after_nothing (g.P.Probe.probed c.args.self.now.probe.now) g.P.Probe.never_refuses
    (IsTrue c.args.self.now.may_give_up) es fs c.args.right l k

pub returns-in-Found-right-clause-reached : goal.returns-in-Found-right-clause-reached
returns-in-Found-right-clause-reached g c = λ es fs h k. let r = rw c.in-Found-right.is at k in
    found_right (g.P.Probe.probed c.args.self.now.probe.now) es fs _ r

pub returns-in-Found-right-2-clause-reached : goal.returns-in-Found-right-2-clause-reached
returns-in-Found-right-2-clause-reached g c = λ es fs h k. let r = rw c.in-Found-right-2.is at k in
    found_right (g.P.Probe.probed c.args.self.now.probe.now) es fs _ r
