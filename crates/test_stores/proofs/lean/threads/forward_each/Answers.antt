use Rattle.std.proofs.Common.{◌+◌, ◌<◌, ◌^◌, ap, arith}
use Rattle.std.proofs.lemmas.Nat.{pow_below}
use Rattle.hashkeys.specs.Classes.{ClassView}
use Rattle.lean_bins.proofs.SlotRefs.{shifted}
use Rattle.test_stores.proofs.lean.threads.forward_each.Goals as goal

pub try_widen-requires : goal.try_widen-requires
try_widen-requires g c =
    let few = c.requires.few in
    (c.args.exponent + 1, omega (arith, few), shifted (c.args.exponent + 1) (omega (arith, few)))

pub new-requires : goal.new-requires
new-requires g c =
    let few = c.requires.few in (
      (c.args.exponent, omega (arith, few), shifted c.args.exponent (omega (arith, few))),
      omega (arith, c.loop-index-test.true),
    )

pub forward-requires-clause-size : goal.forward-requires-clause-size
forward-requires-clause-size g c =
    let few = c.requires.few in
    let small : 2 ^ c.args.exponent < 67108864 = pow_below c.args.exponent 26 (omega (arith, few)) in
    omega (arith, small, shifted c.args.exponent (omega (arith, few)), ap (λ (k : ClassView). k.n) c.new.ensures)
