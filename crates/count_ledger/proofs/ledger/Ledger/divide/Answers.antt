use Rattle.count_ledger.proofs.Keeping.{Keeps-books_with_halves, one_book}
use Rattle.count_ledger.proofs.ledger.Ledger.divide.Goals as goal

pub look-requires-clause-rule : goal.look-requires-clause-rule
look-requires-clause-rule g c =
    let one = rw (c.halves-low.ensures.low, c.halves-low.ensures.high) at c.halves-low.ensures.one in
    let apart = rw (c.halves-low.ensures.low, c.halves-low.ensures.high) at c.halves-low.ensures.apart in
    rw (one_book c.into_seat-seat.result.me.0 c.role.inside.badge.views _ c.role.invariant c.into_seat-seat.ensures.2)
    (Keeps-books_with_halves g.K.HashKey.code g.K.PartialEq.eq _ c.self.inside.table.shared.key _ 0 _ _ _ _ one apart)
