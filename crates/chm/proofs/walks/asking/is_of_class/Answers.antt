use Rattle.std.proofs.Common.{◌≡◌, true, sym, ap, subst, ◌∙◌}
use Rattle.hashkeys.specs.Classes.{ClassView, covers, is_of}
use Rattle.chm.proofs.walks.asking.is_of_class.Goals as goal

pub returns-then-is_same : goal.returns-then-is_same
returns-then-is_same g c =
    sym (subst (λ (k : ClassView). is_of g.K.HashKey.code c.args.salt k c.args.key.now ≡ true)
    (sym (c.is_same.ensures.of c.if-is_same.true)) c.requires)

pub returns : goal.returns
returns g c = c.covers.ensures ∙ ap (covers c.args.class) c.hash_of.ensures.hash
