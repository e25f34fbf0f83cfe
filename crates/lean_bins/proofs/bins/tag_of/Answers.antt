use Rattle.std.proofs.Common.{ap, ◌∙◌}
use Rattle.lean_bins.specs.Segments.{first_named}
use Rattle.count_ledger.specs.Names.{id_of}
use Rattle.bin_layout.specs.Names.{home_named}
use Rattle.bin_history.specs.declared.form.Form.TheVariants.{Lean}
use Rattle.lean_bins.proofs.bins.tag_of.Goals as goal

pub returns-clause-map : goal.returns-clause-map
returns-clause-map c =
    ap home_named c.of-tag.ensures
    ∙ (λ i. record {
      ledger = id_of (c.to_tag.ensures i);
      form = Lean;
      salt = c.args.salt;
      n = c.args.n;
    })

pub returns-clause-from : goal.returns-clause-from
returns-clause-from c = ap first_named c.of-tag.ensures
