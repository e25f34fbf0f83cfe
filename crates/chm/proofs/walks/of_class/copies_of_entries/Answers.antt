use Rattle.std.proofs.Common.{◌≡◌, true, All, subst, sym, ◌∙◌}
use Rattle.std.proofs.lemmas.Result.{IfOk-weaker}
use Rattle.hashkeys.specs.Classes.{ClassView, is_of}
use Rattle.part_walks.proofs.Taking.{filter-all}
use Rattle.chm.proofs.walks.of_class.copies_of_entries.Goals as goal

pub returns-then-is_same : goal.returns-then-is_same
returns-then-is_same g c =
    let code = g.K.HashKey.code in
    let entries = c.args.entries.now.entries in
    let own : c.args.own ≡ c.args.class = sym (c.is_same.ensures.of c.if-is_same.true) in
    let all = subst (λ (k : ClassView). All (λ e. is_of code c.args.salt k e.0 ≡ true) entries) own c.requires.own in
    IfOk-weaker c.copies.result _ _
    (λ copies is. is ∙ sym (filter-all (λ x. is_of code c.args.salt c.args.class x.0) entries all))
    c.copies.ensures.copy
