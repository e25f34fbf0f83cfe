use Rattle.std.proofs.Common.{◌≡◌, true, All, subst, sym, ◌∙◌}
use Rattle.std.proofs.lemmas.Result.{IfOk-weaker}
use Rattle.hashkeys.specs.Classes.{ClassView, is_of}
use Rattle.part_walks.proofs.Taking.{filter-all}
use Rattle.chm.proofs.walks.of_class.copies_of_class.Goals as goal

pub returns-then-is_same : goal.returns-then-is_same
returns-then-is_same g c =
    let bin = c.args.bin.now in
    let code = g.K.HashKey.code in
    let own : bin.class ≡ c.args.class = sym (c.is_same.ensures.of c.if-is_same.true ∙ c.class.ensures) in
    let all = subst (λ (k : ClassView). All (λ e. is_of code bin.salt k e.0 ≡ true) bin.entries) own
    c.lawful.ensures.lawful.of_class in
    IfOk-weaker c.copy_entries.result _ _
    (λ copies is. is ∙ sym (filter-all (λ x. is_of code bin.salt c.args.class x.0) bin.entries all))
    c.copy_entries.ensures
