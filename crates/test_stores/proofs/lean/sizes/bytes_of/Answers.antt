use Rattle.std.proofs.Common.{arith}
use Rattle.lean_bins.proofs.SlotRefs.{shifted}
use Rattle.test_stores.proofs.lean.sizes.bytes_of.Goals as goal

pub quiet-map-requires : goal.quiet-map-requires
quiet-map-requires g c = (c.args.exponent, omega (arith, c.requires), shifted c.args.exponent (omega (arith, c.requires)))
