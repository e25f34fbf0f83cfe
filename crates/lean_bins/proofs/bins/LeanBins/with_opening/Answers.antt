use Rattle.std.proofs.Common.{rules, refl}
use Rattle.bin_history.specs.Calls.{after}
use Rattle.bin_history.specs.declared.form.Form.TheVariants.{Lean}
use Rattle.bin_layout.specs.Views.{HomeView}
use Rattle.lean_bins.proofs.Opened.{opening_fits, words_few}
use Rattle.bin_layout.proofs.Sizes.{exponent_is}
use Rattle.lean_bins.proofs.bins.LeanBins.with_opening.Goals as goal

pub present-requires-clause-fits : goal.present-requires-clause-fits
present-requires-clause-fits g c =
    let home : HomeView = record { ledger = c.args.ledger; form = Lean; salt = c.args.salt; n = c.args.n } in
    opening_fits g.K.PartialEq.eq (after g.V.PartialEq.eq g.F.Remap.remapped g.F.Remap.merged) home
    c.args.bin_slot.items c.requires.opening _ c.ilog2-exponent.result (search rules) refl
    (exponent_is c.args.n c.ilog2-exponent.result c.requires.size c.ilog2-exponent.ensures.power_le
    c.ilog2-exponent.ensures.next_power_gt)

pub present-requires-clause-few : goal.present-requires-clause-few
present-requires-clause-few g c = words_few c.args.n _ _ c.requires.size c.requires.count c.stride_of_opening-stride.ensures.few
