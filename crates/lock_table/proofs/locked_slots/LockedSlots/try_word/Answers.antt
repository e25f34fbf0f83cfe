use Rattle.std.proofs.Common.{rules}
use Rattle.lock_table.proofs.Steps.{sits, takes_it}
use Rattle.lock_table.proofs.locked_slots.LockedSlots.try_word.Goals as goal

pub load_new_seat-seat-requires : goal.load_new_seat-seat-requires
load_new_seat-seat-requires g c = (search rules, sits g.X.Fits.fits _ _ _)

pub compare_exchange-found-requires : goal.compare_exchange-found-requires
compare_exchange-found-requires g c = (
  search rules,
  search rules,
  takes_it g.X.Fits.fits _ _ _ _ c.args.at _ _ (search rules) (search rules) (search rules) (search rules)
      (search rules),
)
