use Rattle.std.proofs.Common.{◌-◌, arith}
use Rattle.bin_layout.proofs.Sizes.{size_few}
use Rattle.lean_bins.proofs.SlotRefs.{exponent_few}
use Rattle.lean_bins.proofs.bins.LeanBins.try_widen.Goals as goal

pub keep_parts-requires : goal.keep_parts-requires
keep_parts-requires g c =
    exponent_few c.ilog2.result (c.args.size - 1) c.ilog2.ensures.power_le
    (omega (arith, size_few c.args.size c.requires))
