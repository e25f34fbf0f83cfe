use Rattle.count_ledger.proofs.Keeping.{Splits-shown}
use Rattle.count_ledger.proofs.seats.show.Goals as goal

pub split_seat-requires : goal.split_seat-requires
split_seat-requires g c =
    (c.requires.seat, c.requires.words, Splits-shown g.K.HashKey.code g.K.PartialEq.eq _ c.args.shared.now.key _ _)
