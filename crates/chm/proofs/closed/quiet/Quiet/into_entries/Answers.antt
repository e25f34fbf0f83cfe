use Rattle.std.proofs.Common.{◌≤◌, List, length, vec_capacity, sym, subst}
use Rattle.bin_history.specs.Lawful.{BinView}
use Rattle.chm.specs.Headline.{entries_of}
use Rattle.chm.proofs.closed.quiet.Quiet.into_entries.Goals as goal

pub move_all-requires-clause-room : goal.move_all-requires-clause-room
move_all-requires-clause-room g c =
    subst (λ (bins : List (BinView _ _ _)). length (entries_of bins) ≤ vec_capacity c.in-Ok.room)
    (sym c.into_bins.ensures) c.in-Ok.ensures.room
