use Rattle.std.proofs.Common.{◌≡◌, refl, ◌∙◌}
use Rattle.bin_history.specs.Calls.{after}
use Rattle.lean_bins.specs.Segments.{class_at}
use Rattle.lean_bins.proofs.Halves.{fits_taken, lies_there, least_there}
use Rattle.lean_bins.proofs.SlotRefs.{shifted}
use Rattle.lean_bins.proofs.bins.LeanBins.try_at.Goals as goal

pub returns-clause-class : goal.returns-clause-class
returns-clause-class g c =
    c.new-class.ensures ∙ (λ i. record { n = shifted c.args.exponent c.requires.few i; index = c.args.index })

pub returns-clause-lies : goal.returns-clause-lies
returns-clause-lies g c =
    let same = g.K.PartialEq.eq in
    let after_is = after g.V.PartialEq.eq g.F.Remap.remapped g.F.Remap.merged in
    let home = c.args.self.now in
    let class = c.new-class.result in
    let l = c.in_ok-inner.inner.seat.me.1 in
    let class_is : class ≡ class_at c.args.index c.args.exponent = c.new-class.ensures
    ∙ (λ i. record { n = shifted c.args.exponent c.requires.few i; index = c.args.index }) in
    lies_there same after_is l home class
    (fits_taken same after_is l c.args.slot_ref.rows.now.table.shared.key.tag c.args.slot_ref.at c.args.index c.args.exponent
    home class c.in_ok-inner.ensures.fits c.requires.slot_ref.of_map c.requires.slot_ref.index_is class_is)

pub returns-clause-of_map : goal.returns-clause-of_map
returns-clause-of_map g c =
    let same = g.K.PartialEq.eq in
    let after_is = after g.V.PartialEq.eq g.F.Remap.remapped g.F.Remap.merged in
    let home = c.args.self.now in
    let class = c.new-class.result in
    let l = c.in_ok-inner.inner.seat.me.1 in
    let class_is : class ≡ class_at c.args.index c.args.exponent = c.new-class.ensures
    ∙ (λ i. record { n = shifted c.args.exponent c.requires.few i; index = c.args.index }) in
    record {
      form = refl;
      salt = refl;
      ledger = refl;
      least = least_there same after_is l home class
          (fits_taken same after_is l c.args.slot_ref.rows.now.table.shared.key.tag c.args.slot_ref.at c.args.index
          c.args.exponent home class c.in_ok-inner.ensures.fits c.requires.slot_ref.of_map c.requires.slot_ref.index_is
          class_is);
    }
