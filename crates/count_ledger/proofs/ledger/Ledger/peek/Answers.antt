use Rattle.std.proofs.Common.{sym}
use Rattle.count_ledger.proofs.Fronts.{IsFront-sound}
use Rattle.count_ledger.proofs.Keeping.{Keeps-looked, both_books}
use Rattle.count_ledger.proofs.Settlement.{IsRoleOf-sound}
use Rattle.count_ledger.proofs.ledger.Ledger.peek.Goals as goal

pub look-requires-clause-rule : goal.look-requires-clause-rule
look-requires-clause-rule g c = Keeps-looked g.K.HashKey.code g.K.PartialEq.eq _ c.self.inside.table.shared.key _ _ _

pub returns-clause-of_role : goal.returns-clause-of_role
returns-clause-of_role g c =
    let books =
    rw (both_books c.pass.inside.seat.me c.join.new.seat.me c.role.inside.badge.views _ _ c.pass.invariant.book
    c.role.invariant
    c.join.ensures.books) at c.look.ensures.told.4.sound in
    rw (← c.self.view_is, ← c.role.view_is)
    (IsRoleOf-sound g.K.HashKey.code c.self.inside.table.shared.table_id c.self.inside.table.shared.key
    c.look.ensures.told.1 _ books.2.0)

pub returns-clause-front : goal.returns-clause-front
returns-clause-front g c =
    let books =
    rw (both_books c.pass.inside.seat.me c.join.new.seat.me c.role.inside.badge.views _ _ c.pass.invariant.book
    c.role.invariant
    c.join.ensures.books) at c.look.ensures.told.4.sound in
    let told = c.look.ensures.told.4 in
    let calls = c.look.ensures.told.1 in
    rw (← c.self.view_is, ← c.pass.view_is, ← c.role.view_is) (
      calls,
      IsFront-sound g.K.PartialEq.eq _ c.self.inside.table.shared.table_id c.self.inside.table.shared.key calls _ books.0
          told.legal told.clients,
      sym books.2.0.3,
    )
