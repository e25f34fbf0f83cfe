use Rattle.count_ledger.proofs.Keeping.{Splits-parted}
use Rattle.count_ledger.proofs.seats.part.Goals as goal

pub split_seat-requires : goal.split_seat-requires
split_seat-requires g c = (c.requires.seat, c.requires.words, Splits-parted g.K.HashKey.code g.K.PartialEq.eq _ c.args.shared.now.key _ _)
