use Rattle.hashkeys.specs.Classes.{is_of}
use Rattle.count_ledger.specs.Tokens.{made_of_pass, salt_of_role, kept_of_role}
use Rattle.count_ledger.proofs.Keeping.{Keeps-books_seeing, both_books}
use Rattle.count_ledger.proofs.Ordering.{agree_by}
use Rattle.count_ledger.proofs.Settlement.{IsPassOf-sound, IsRoleOf-sound}
use Rattle.count_ledger.proofs.ledger.Ledger.meet.Goals as goal

pub look-requires-clause-rule : goal.look-requires-clause-rule
look-requires-clause-rule g c = Keeps-books_seeing g.K.HashKey.code g.K.PartialEq.eq _ c.self.inside.table.shared.key _ _ _

pub returns-clause-agree : goal.returns-clause-agree
returns-clause-agree g c =
    let books =
    rw (both_books c.pass.inside.seat.me c.join.new.seat.me c.role.inside.badge.views _ _ c.pass.invariant.book
    c.role.invariant
    c.join.ensures.books) at c.look.ensures.told.4.sound in
    rw (← c.pass.view_is, ← c.role.view_is)
    (agree_by (is_of g.K.HashKey.code (salt_of_role c.role.inside.badge.views) c.role.inside.class)
    c.pass.inside.client
    c.look.ensures.told.1 (made_of_pass c.pass.inside.seat.me.0) (kept_of_role c.role.inside.badge.views)
    books.0.made_is books.2.0.3)

pub returns-clause-of_pass : goal.returns-clause-of_pass
returns-clause-of_pass g c =
    let books =
    rw (both_books c.pass.inside.seat.me c.join.new.seat.me c.role.inside.badge.views _ _ c.pass.invariant.book
    c.role.invariant
    c.join.ensures.books) at c.look.ensures.told.4.sound in
    rw (← c.self.view_is, ← c.pass.view_is)
    (IsPassOf-sound g.K.HashKey.code c.self.inside.table.shared.table_id c.self.inside.table.shared.key
    c.look.ensures.told.1 _ books.0)

pub returns-clause-of_role : goal.returns-clause-of_role
returns-clause-of_role g c =
    let books =
    rw (both_books c.pass.inside.seat.me c.join.new.seat.me c.role.inside.badge.views _ _ c.pass.invariant.book
    c.role.invariant
    c.join.ensures.books) at c.look.ensures.told.4.sound in
    rw (← c.self.view_is, ← c.role.view_is)
    (IsRoleOf-sound g.K.HashKey.code c.self.inside.table.shared.table_id c.self.inside.table.shared.key
    c.look.ensures.told.1 _ books.2.0)
