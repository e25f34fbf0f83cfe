use Rattle.std.proofs.Common.{◌≤◌, ◌∙◌, List, ap, subst, sym, length, arith}
use Rattle.bin_history.specs.declared.form.Form.{Form}
use Rattle.chm.specs.Sizes.{most_bins_of}
use Rattle.chm.proofs.Limits.{most_clients_le}
use Rattle.chm.proofs.map.Map.open.Goals as goal

pub invariant_of-map : goal.invariant_of-map
invariant_of-map g c = record {
  id = c.in_ok-bins.ensures.ledger c.in_ok-ledger.ledger.id c.in_ok-ledger.ensures.roles;
  form = c.in_ok-bins.ensures.form ∙ sym c.in_ok-ledger.ensures.form;
  salt = c.in_ok-bins.ensures.salt ∙ sym c.in_ok-ledger.ensures.salt;
  opened_is = c.requires.opened ∙ ap (λ (l : List _). length l) (sym c.in_ok-ledger.ensures.opening);
  few = c.requires.few;
  wide =
      subst (λ (f : Form). c.in_ok-bins.bins.n ≤ most_bins_of f) (sym c.in_ok-ledger.ensures.form)
      (omega (arith, c.in_ok-bins.ensures.n, c.requires.wide, c.len-n.ensures, c.args.bases.ok.0));
  clients =
      let e = c.in_ok-ledger.ensures.clients in
      let (some, most) = c.requires.clients in
      let few = most_clients_le c.args.form in
      omega arith;
}
