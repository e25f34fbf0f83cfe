use Rattle.std.proofs.Common.{IsTrue}
use Rattle.bulk_tasks.proofs.Probing.{after_nothing, found_left, found_right}
use Rattle.bulk_tasks.proofs.searching.SearchingCollector.append.Goals as goal

pub returns-in-Found : goal.returns-in-Found
returns-in-Found g c = λ es fs h k.
    let l = rw c.in-Found.is at h in found_left (g.P.Probe.probed c.args.self.now.probe.now) es fs _ l

pub returns-in-Nothing : goal.returns-in-Nothing
returns-in-Nothing g c = λ es fs h k.
    let l = rw c.in-Nothing.is at h in
    after_nothing (g.P.Probe.probed c.args.self.now.probe.now) g.P.Probe.never_refuses
    (IsTrue c.args.self.now.may_give_up) es fs c.args.right l k

pub returns-in-Found-right : goal.returns-in-Found-right
returns-in-Found-right g c = λ es fs h k. let r = rw c.in-Found-right.is at k in
    found_right (g.P.Probe.probed c.args.self.now.probe.now) es fs _ r

pub returns-in-Found-right-2 : goal.returns-in-Found-right-2
returns-in-Found-right-2 g c = λ es fs h k. let r = rw c.in-Found-right-2.is at k in
    found_right (g.P.Probe.probed c.args.self.now.probe.now) es fs _ r
