use Rattle.std.proofs.Common.{arith}
use Rattle.bulk_tasks.proofs.Ranges.{range_few}
use Rattle.bulk_tasks.proofs.collector.CollectingBody.leaf.Goals as goal

pub collect-requires : goal.collect-requires
collect-requires g c =
    let body = c.args.self.now in
    let all = body.few in
    let own = range_few body.bins.now c.args.lo c.args.hi in
    record { few = omega (arith, all, own) }
