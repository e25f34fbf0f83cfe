-- A value that is lent.
use Rattle.atomic_table.specs.Lent.{seat_with}
use Rattle.lock_table.specs.Taken.{still_one}
use Rattle.lock_table.specs.declared.held.SlotGuard.{SlotGuard}

abbrev pub with_value : {X A T : Type 0} → SlotGuard X A T → X → SlotGuard X A T
with_value h w = record {
  rows = h.rows;
  at = h.at;
  word = h.word;
  seat = seat_with h.seat h.at w;
  within = h.within;
  seated = h.seated;
  holds = still_one h.seat.me.1 h.at w h.holds;
  worded = h.worded;
  below = h.below;
}
