use Rattle.count_ledger.proofs.Keeping.{Joins-joined}
use Rattle.count_ledger.proofs.seats.join.Goals as goal

pub join_seat-requires : goal.join_seat-requires
join_seat-requires g c = (
  c.requires.seat,
  rw (c.into_seat.ensures.0, c.replace-other.ensures.value) c.requires.badge,
  c.into_seat.ensures.3,
  c.requires.words,
  Joins-joined g.K.HashKey.code g.K.PartialEq.eq _ c.args.shared.now.key _ _ _ _,
)
