use Rattle.std.proofs.Common.{◌≡◌, ◌++◌, true, Bool, List, All, subst, sym}
use Rattle.hashkeys.specs.Classes.{ClassView, is_of}
use Rattle.part_walks.proofs.Taking.{filter-all}
use Rattle.part_walks.proofs.taker.show_entries.Goals as goal

pub returns-then-is_same : goal.returns-then-is_same
returns-then-is_same g c = λ es h.
    let code = g.K.HashKey.code in
    let entries = c.args.walk in
    let own : c.args.own ≡ c.args.class = sym (c.is_same.ensures.of c.if-is_same.true) in
    let all = subst (λ (k : ClassView). All (λ e. is_of code c.args.salt k e.0 ≡ true) entries) own c.requires.own in
    let test : g.row.K.Denot × g.row.V.Denot → Bool = λ x. is_of code c.args.salt c.args.class x.0 in
    subst (λ (l : List (g.row.K.Denot × g.row.V.Denot)). g.T.Taker.reached c.args.taker.now (es ++ l) c.add_all.result)
    (sym (filter-all test entries all)) (c.add_all.ensures es h)
