use Rattle.std.proofs.Common.{◌≡◌, ◌≤◌, ◌^◌, vec_len, vec_capacity}
use Rattle.lean_bins.specs.Segments.{AreSlotsOfSegments}
use Rattle.lean_bins.proofs.bins.LeanBins.new_segments.Given as goal

abbrev pub invariant-loop-number : goal.invariant-loop-number
invariant-loop-number g l = record {
  segments : AreSlotsOfSegments l.self (2 ^ l.exponent) l.segments.items;
  len : vec_len l.segments ≡ l.number;
  room : l.count ≤ vec_capacity l.segments;
}
