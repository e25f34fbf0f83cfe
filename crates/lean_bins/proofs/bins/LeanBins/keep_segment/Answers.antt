use Rattle.std.proofs.Common.{◌<◌, ◌^◌, length, arith}
use Rattle.lean_bins.specs.Segments.{AreSegments}
use Rattle.lean_bins.proofs.SlotRefs.{segment_into}
use Rattle.lean_bins.proofs.bins.LeanBins.keep_segment.Goals as goal

pub set_written-requires : goal.set_written-requires
set_written-requires g c =
    let slots = c.in-Some.table.now.segments.items in
    let segments : AreSegments c.args.self.now (2 ^ c.args.exponent) slots = c.in-Some.ensures in
    let lt : c.args.number < length slots = omega (arith, segments.reach, c.requires.within) in
    segment_into c.args.self.now (2 ^ c.args.exponent) c.args.number slots c.index.result.now _ _ segments lt
    c.index.ensures c.in_ok-segment.ensures
