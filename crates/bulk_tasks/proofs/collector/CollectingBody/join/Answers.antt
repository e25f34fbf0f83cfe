use Rattle.std.proofs.Common.{◌≡◌, ◌+◌, List, length, ap, sym, ◌∙◌, subst, slice_range, arith}
use Rattle.std.proofs.lemmas.List.{length-append}
use Rattle.chm.specs.Headline.{entries_of}
use Rattle.bulk_tasks.proofs.Ranges.{entries_side_by_side, range_few}
use Rattle.bulk_tasks.proofs.collector.CollectingBody.join.Goals as goal

pub append-requires : goal.append-requires
append-requires g c =
    let i = c.loop-next.invariant in
    let a = rw c.in-Some-take.ensures at i.1 in
    let body = c.args.self.now in
    let lo = c.args.lo in
    let mid = c.loop-next.whole.hi in
    let hi = c.in-Some-take.next.hi in
    let left = entries_of (slice_range body.bins.now lo mid) in
    let right = entries_of (slice_range body.bins.now mid hi) in
    let both : length left + length right ≡ length (entries_of (slice_range body.bins.now lo hi))
    = sym (length-append left right) ∙ ap length (entries_side_by_side body.bins.now lo mid hi i.0 (omega arith)) in
    let all = body.few in
    let own = range_few body.bins.now lo hi in
    record { few = (left, right, i.2, a.2, omega (arith, both, all, own)) }

pub loop-next-preserved : goal.loop-next-preserved
loop-next-preserved g c =
    let i = c.loop-next.invariant in
    let a = rw c.in-Some-take.ensures at i.1 in
    let P : List (g.row.K.Denot × g.row.V.Denot)
    → Type 0 = λ es. g.C.Collector.collected c.args.self.now.collector.now es c.append.result in (
      omega arith,
      a.3,
      subst P (entries_side_by_side c.args.self.now.bins.now c.args.lo c.loop-next.whole.hi c.in-Some-take.next.hi i.0
          (omega arith))
          (c.append.ensures (entries_of (slice_range c.args.self.now.bins.now c.args.lo c.loop-next.whole.hi))
          (entries_of (slice_range c.args.self.now.bins.now c.loop-next.whole.hi c.in-Some-take.next.hi)) i.2 a.2),
    )
