use Rattle.std.proofs.Common.{◌≡◌, ℕ, ◌<◌, length, ap, subst, sym, ◌∙◌, arith}
use Rattle.std.proofs.lemmas.Nat.{pow_pos}
use Rattle.count_ledger.specs.Views.{LedgerId}
use Rattle.generations.specs.Generations.{IsTable}
use Rattle.bin_layout.specs.Views.{HomeView}
use Rattle.bin_layout.proofs.Openings.{length-new_roles, first_ledger, if_ok_then}
use Rattle.generations.proofs.generations.Generations.new.Goals as goal

pub index-requires : goal.index-requires
index-requires g c =
    let (e, le, is) = c.requires.size in
    let (id, made) = c.requires.roles in
    omega (
      arith,
      c.args.roles.ok.0,
      length-new_roles id c.args.salt c.args.bases c.args.roles.items made,
      c.requires.count,
      is,
      pow_pos e,
    )

pub with_opening-requires : goal.with_opening-requires
with_opening-requires g c =
    let (e, le, is) = c.requires.size in
    let (id, made) = c.requires.roles in
    let some : 0 < length c.args.bases.items = omega (arith, c.requires.count, is, pow_pos e) in
    let name : c.of-ledger.result ≡ id = c.of-ledger.ensures
    ∙ first_ledger id c.args.salt c.args.bases c.args.roles.items c.index.result.now made some c.index.ensures in
    let table =
    subst (λ (n : ℕ). IsTable (record { ledger = id; form = c.args.form; salt = c.args.salt; n = n }) n
    c.in_ok-places.places.items)
    (sym c.in_ok-places.ensures.count) (c.in_ok-places.ensures.places id made) in
    record {
      opening =
          subst (λ (x : LedgerId). IsTable
          (record { ledger = x; form = c.args.form; salt = c.args.salt; n = length c.in_ok-places.places.items })
          (length c.in_ok-places.places.items) c.in_ok-places.places.items) (sym name) table;
    }

pub returns-clause-n : goal.returns-clause-n
returns-clause-n g c = if_ok_then c.with_opening.result
    (λ (m : HomeView) made. ap (λ (x : HomeView). x.n) made ∙ c.in_ok-places.ensures.count)
    c.with_opening.ensures

pub returns-clause-form : goal.returns-clause-form
returns-clause-form g c =
    if_ok_then c.with_opening.result (λ (m : HomeView) made. ap (λ (x : HomeView). x.form) made)
    c.with_opening.ensures

pub returns-clause-salt : goal.returns-clause-salt
returns-clause-salt g c =
    if_ok_then c.with_opening.result (λ (m : HomeView) made. ap (λ (x : HomeView). x.salt) made)
    c.with_opening.ensures

pub returns-clause-ledger : goal.returns-clause-ledger
returns-clause-ledger g c = if_ok_then c.with_opening.result
    (λ (m : HomeView) made ledger roles.
    let (e, le, is) = c.requires.size in
    let some : 0 < length c.args.bases.items = omega (arith, c.requires.count, is, pow_pos e) in
    ap (λ (x : HomeView). x.ledger) made ∙ c.of-ledger.ensures
    ∙ first_ledger ledger c.args.salt c.args.bases c.args.roles.items c.index.result.now roles some c.index.ensures)
    c.with_opening.ensures
