use Rattle.std.proofs.Common.{ap, ◌∙◌}
use Rattle.count_ledger.specs.Names.{id_of}
use Rattle.bin_layout.specs.Names.{home_named}
use Rattle.generations.specs.Generations.{size_named}
use Rattle.bin_layout.proofs.Openings.{form_numbered-number}
use Rattle.generations.proofs.tables.tag_of.Goals as goal

pub returns-clause-map : goal.returns-clause-map
returns-clause-map c =
    ap home_named c.of-tag.ensures
    ∙ (λ i. record {
      ledger = id_of (c.to_tag.ensures i);
      form = form_numbered-number c.args.form i;
      salt = c.args.salt;
      n = c.args.n;
    })

pub returns-clause-size : goal.returns-clause-size
returns-clause-size c = ap size_named c.of-tag.ensures
