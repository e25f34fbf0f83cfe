use Rattle.std.proofs.Common.{◌<◌, ◌^◌, length, arith}
use Rattle.lean_bins.specs.Segments.{AreSegments}
use Rattle.lean_bins.proofs.SlotRefs.{segment_there, some_then}
use Rattle.lean_bins.proofs.bins.LeanBins.segment.Goals as goal

pub returns : goal.returns
returns g c =
    let slots = c.in_ok-table.field-0.now.segments.items in
    let segments : AreSegments c.args.self.now (2 ^ c.args.exponent) slots = c.in_ok-table.ensures in
    let lt : c.args.number < length slots = omega (arith, segments.reach, c.requires.within) in
    some_then c.get.result _ _
    (λ r is. segment_there c.args.self.now (2 ^ c.args.exponent) c.args.number slots c.index.result.now _ _ segments lt
    c.index.ensures is)
    c.get.ensures
