use Rattle.std.proofs.Common.{◌≡◌, ◌^◌, ◌≤◌, ◌<◌, ◌-◌, ◌*◌, ◌%◌, ℕ, arith, div-add-mod'}
use Rattle.lean_bins.proofs.SlotRefs.{exponent_few, shifted}
use Rattle.lean_bins.proofs.bins.LeanBins.try_slot_ref_for.Goals as goal

pub keep_parts-requires : goal.keep_parts-requires
keep_parts-requires g c = exponent_few c.ilog2-exponent.result c.args.index c.ilog2-exponent.ensures.power_le c.requires

pub keep_segment-requires : goal.keep_segment-requires
keep_segment-requires g c =
    let low : 2 ^ c.ilog2-exponent.result ≤ c.args.index = c.ilog2-exponent.ensures.power_le in
    let few : c.ilog2-exponent.result < 26 = exponent_few c.ilog2-exponent.result c.args.index low c.requires in
    let at : ℕ = c.args.index - 1 * 2 ^ c.ilog2-exponent.result % 4294967296 in
    let same : 1 * 2 ^ c.ilog2-exponent.result % 4294967296 ≡ 2 ^ c.ilog2-exponent.result =
    shifted c.ilog2-exponent.result (omega (arith, few)) in
    let p = c.ilog2-exponent.ensures.next_power_gt in
    record { table = few; within = omega (arith, div-add-mod' at 4096) }
