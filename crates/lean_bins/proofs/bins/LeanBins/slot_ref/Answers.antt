use Rattle.std.proofs.Common.{◌≡◌, ◌<◌, ℕ, ◌-◌, ◌*◌, ◌≤◌, ◌%◌, ◌^◌, ap, arith}
use Rattle.std.proofs.Math.Nat.{mod-eq_of_lt}
use Rattle.lean_bins.proofs.SlotRefs.{slot_ref_there, exponent_few}
use Rattle.lean_bins.proofs.bins.LeanBins.slot_ref.Goals as goal

pub segment-requires-clause-table : goal.segment-requires-clause-table
segment-requires-clause-table g c =
    exponent_few c.ilog2-exponent.result c.args.index c.ilog2-exponent.ensures.power_le c.requires

pub returns : goal.returns
returns g c =
    let p : ℕ = 2 ^ c.ilog2-exponent.result in
    let low : p ≤ c.args.index = c.ilog2-exponent.ensures.power_le in
    let small : c.args.index < 4294967296 = c.ranges.index.fits in
    let same : 1 * p % 4294967296 ≡ p = omega (arith, mod-eq_of_lt {n = p} {m = 4294967296} (omega arith)) in
    slot_ref_there c.args.self.now c.args.index p _ _ _ low c.ilog2-exponent.ensures.next_power_gt
    (ap (λ (k : ℕ). c.args.index - k) same) c.in_ok-segment.ensures
