use Rattle.count_ledger.proofs.Keeping.{Keeps-books_seeing, both_books}
use Rattle.count_ledger.proofs.Settlement.{IsPassOf-sound}
use Rattle.count_ledger.proofs.ledger.Ledger.learn.Goals as goal

pub look-requires-clause-rule : goal.look-requires-clause-rule
look-requires-clause-rule g c = Keeps-books_seeing g.K.HashKey.code g.K.PartialEq.eq _ c.self.inside.table.shared.key _ _ _

pub returns-clause-of_pass : goal.returns-clause-of_pass
returns-clause-of_pass g c =
    let books =
    rw (both_books c.pass.inside.seat.me c.join.new.seat.me c.moment.inside.badge.views _ _ c.pass.invariant.book
    c.moment.invariant
    c.join.ensures.books) at c.look.ensures.told.4.sound in
    rw (← c.self.view_is, ← c.pass.view_is)
    (IsPassOf-sound g.K.HashKey.code c.self.inside.table.shared.table_id c.self.inside.table.shared.key
    c.look.ensures.told.1 _ books.0)
