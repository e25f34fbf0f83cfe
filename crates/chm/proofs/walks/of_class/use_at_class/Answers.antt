use Rattle.std.proofs.Common.{◌≡◌, true, List, All, subst, sym}
use Rattle.std.specs.List.{FoldsTo}
use Rattle.hashkeys.specs.Classes.{ClassView, is_of}
use Rattle.part_walks.proofs.Taking.{filter-all}
use Rattle.chm.specs.Cursors.{IsUsedAt}
use Rattle.chm.proofs.walks.of_class.use_at_class.Goals as goal

pub returns-then-is_same-clause-used : goal.returns-then-is_same-clause-used
returns-then-is_same-clause-used g c =
    let code = g.K.HashKey.code in
    let own : c.args.own ≡ c.args.class = sym (c.is_same.ensures.of c.if-is_same.true) in
    let all = subst (λ (k : ClassView). All (λ e. is_of code c.args.salt k e.0 ≡ true) c.args.walk) own c.requires.own in
    subst (λ (es : List _). FoldsTo (IsUsedAt (goal.G-step g)) c.args.f.now es c.use_at_each.new.f)
    (sym (filter-all (λ x. is_of code c.args.salt c.args.class x.0) c.args.walk all)) c.use_at_each.ensures.used
