use Rattle.std.proofs.Common.{◌<◌, arith}
use Rattle.count_ledger.proofs.Openings.{range_next}
use Rattle.count_ledger.proofs.ledger.Ledger.join.Goals as goal

pub invariant_of-roster : goal.invariant_of-roster
invariant_of-roster g c =
    let before : c.roster.inside.next < c.roster.inside.clients = omega (arith, c.if-roster.false) in
    let view = rw (range_next c.roster.inside.next c.roster.inside.clients before) at c.roster.invariant.books in
    record {
      among = omega (arith, before);
      few = c.roster.invariant.few;
      books = rw view at c.take_first-seat.ensures.others;
    }
