use Rattle.std.proofs.Common.{◌≡◌, ◌<◌, ap, sym, subst, refl, ◌∙◌, lit≤, arith}
use Rattle.hashkeys.proofs.Halves.{IsTableSize-double}
use Rattle.bin_history.specs.declared.form.Form.TheVariants.{Recorded}
use Rattle.chm.specs.Sizes.{most_bins_of}
use Rattle.chm.specs.Views.{MapView}
use Rattle.chm.proofs.Sizes.{IsTableSize-wider, most_bins_few}
use Rattle.chm.proofs.map.Map.widen.Goals as goal

pub try_widen-requires-clause-size : goal.try_widen-requires-clause-size
try_widen-requires-clause-size g c =
    IsTableSize-double c.args.n (omega (arith, c.requires.few, most_bins_few c.args.self.now.ledger.form)) c.requires.size

pub try_widen-requires-clause-few : goal.try_widen-requires-clause-few
try_widen-requires-clause-few g c recorded =
    let form : c.args.self.now.ledger.form ≡ Recorded =
    sym (ap (λ (m : MapView _ _). m.ledger.form) c.self.view_is) ∙ sym c.self.invariant.form ∙ recorded in
    IsTableSize-wider c.args.n 65536 c.requires.size (16, lit≤ tt, refl)
    (subst (λ f. c.args.n < most_bins_of f) form c.requires.few)
