use Rattle.std.proofs.Common.{◌≡◌, ◌<◌, ◌*◌, ◌-◌, ◌%◌, ◌^◌, ℕ, arith, subst, sym}
use Rattle.lean_bins.specs.Homes.{IsIndexOf}
use Rattle.lean_bins.proofs.SlotRefs.{index_few, shifted, exponent_few, narrower}
use Rattle.lean_bins.proofs.bins.LeanBins.find.Goals as goal

pub loop-index-init : goal.loop-index-init
loop-index-init g c = record {
  below = index_few c.widest.result c.index_among-index.result c.widest.ensures c.index_among-index.ensures.below;
  of_hash = (c.widest.result, c.widest.ensures, c.index_among-index.ensures.value);
}

pub loop-index-preserved : goal.loop-index-preserved
loop-index-preserved g c =
    let kept = c.loop-index.invariant in
    let k = c.ilog2.result in
    let few : k < 26 = exponent_few k c.loop-index.index c.ilog2.ensures.power_le kept.below in
    let same : 1 * 2 ^ k % 4294967296 ≡ 2 ^ k = shifted k (omega (arith, few)) in
    let next = narrower c.args.hash c.loop-index.index k kept.of_hash c.ilog2.ensures.power_le c.ilog2.ensures.next_power_gt in
    record {
      below = omega (arith, kept.below);
      of_hash = subst (λ (x : ℕ). IsIndexOf c.args.hash (c.loop-index.index - x)) (sym same) next;
    }
