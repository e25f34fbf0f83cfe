use Rattle.std.proofs.Common.{◌≡◌, ◌≤◌, ap, sym, subst, arith}
use Rattle.std.specs.Option.{IsSomeAnd}
use Rattle.hashkeys.specs.Classes.{ClassView}
use Rattle.chm.specs.Cursors.{CursorView}
use Rattle.part_walks.specs.Parts.{IsFirstOf}
use Rattle.chm.proofs.Cursors.{HasComeTo-past}
use Rattle.chm.proofs.InPlace.{some_and}
use Rattle.chm.proofs.walks.cursor.Cursor.go_past.Goals as goal

pub returns-clause-passed : goal.returns-clause-passed
returns-clause-passed c = λ classes come.
    let n = c.self.inside.n in
    let class = c.args.class in
    let then = c.next_in_walk-self-inside.result in
    let own = ap (λ (v : CursorView). v.next) c.self.view_is in
    let (next, is, first) = some_and (λ (k : ClassView). IsFirstOf k class) c.self.inside.next
    (subst (λ o. IsSomeAnd o (λ k. IsFirstOf k class)) (sym own) c.requires.first) in
    let narrow = first.narrow in
    let least : n ≤ next.n = rw is at c.self.invariant.1 in
    let low : n ≤ class.n = omega (arith, least, narrow) in
    let there = rw is at (rw (← c.self.view_is) at come) in
    HasComeTo-past n classes class next then
    (λ cs k walk after_it. c.walk_laws.ensures.next n cs next class k c.self.invariant.0
    first.next_is first.class_is low walk first.covers narrow after_it)
    (λ cs walk last. c.walk_laws.ensures.last n cs next class c.self.invariant.0
    first.next_is first.class_is low walk first.covers narrow last)
    c.next_in_walk-self-inside.ensures.next c.next_in_walk-self-inside.ensures.last there
