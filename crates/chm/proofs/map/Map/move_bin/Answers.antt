use Rattle.std.proofs.Common.{rules, ◌≡◌, ◌<◌, ◌∙◌, ap, subst, sym}
use Rattle.bin_history.specs.declared.form.Form.{Form}
use Rattle.bin_history.specs.declared.form.Form.TheVariants.{Recorded}
use Rattle.chm.specs.Sizes.{most_bins_of}
use Rattle.chm.specs.Views.{MapView}
use Rattle.chm.proofs.map.Map.move_bin.Goals as goal

pub try_forward-requires-clause-few : goal.try_forward-requires-clause-few
try_forward-requires-clause-few g c = λ recorded.
    let own = ap (λ (m : MapView _ _). m.ledger.form) c.self.view_is in
    let form : c.args.self.now.ledger.form ≡ Recorded = sym own ∙ sym c.self.invariant.form ∙ recorded in
    let few : c.args.class.n < most_bins_of c.args.self.now.ledger.form = search rules in
    subst (λ (f : Form). c.args.class.n < most_bins_of f) form few
