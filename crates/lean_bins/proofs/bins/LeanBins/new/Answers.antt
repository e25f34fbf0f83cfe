use Rattle.std.proofs.Common.{◌≡◌, ◌<◌, length, ap, subst, sym, ◌∙◌, arith}
use Rattle.std.proofs.lemmas.Nat.{pow_pos}
use Rattle.count_ledger.specs.Views.{LedgerId}
use Rattle.bin_history.specs.Calls.{after}
use Rattle.bin_history.specs.declared.form.Form.TheVariants.{Lean}
use Rattle.lean_bins.specs.BinSlot.{AreOpening}
use Rattle.bin_layout.specs.Views.{HomeView}
use Rattle.bin_layout.proofs.Openings.{length-new_roles, first_ledger, if_ok_then}
use Rattle.lean_bins.proofs.bins.LeanBins.new.Goals as goal

pub index-requires : goal.index-requires
index-requires g c =
    let (e, le, is) = c.requires.size in
    let (id, made) = c.requires.roles in
    omega (
      arith,
      c.args.roles.ok.0,
      length-new_roles id c.args.salt c.args.bases c.args.roles.items made,
      c.requires.count,
      is,
      pow_pos e,
    )

pub with_opening-requires-clause-opening : goal.with_opening-requires-clause-opening
with_opening-requires-clause-opening g c =
    let (e, le, is) = c.requires.size in
    let (id, made) = c.requires.roles in
    let some : 0 < length c.args.bases.items = omega (arith, c.requires.count, is, pow_pos e) in
    let name : c.of-ledger.result ≡ id = c.of-ledger.ensures
    ∙ first_ledger id c.args.salt c.args.bases c.args.roles.items c.index.result.now made some c.index.ensures in
    subst (λ (x : LedgerId). AreOpening g.K.PartialEq.eq (after g.V.PartialEq.eq g.F.Remap.remapped g.F.Remap.merged)
    (record { ledger = x; form = Lean; salt = c.args.salt; n = c.args.n }) c.in_ok-bin_slot.bin_slot.items) (sym name) (c.in_ok-bin_slot.ensures.places id made)

pub returns-clause-ledger : goal.returns-clause-ledger
returns-clause-ledger g c = if_ok_then c.with_opening.result
    (λ (m : HomeView) made ledger roles.
    let (e, le, is) = c.requires.size in
    let some : 0 < length c.args.bases.items = omega (arith, c.requires.count, is, pow_pos e) in
    ap (λ (x : HomeView). x.ledger) made ∙ c.of-ledger.ensures
    ∙ first_ledger ledger c.args.salt c.args.bases c.args.roles.items c.index.result.now roles some c.index.ensures)
    c.with_opening.ensures
