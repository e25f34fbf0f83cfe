use Rattle.std.proofs.Common.{refl, Err}
use Rattle.facing_maps.specs.Statuses.{facing_wrong_handle}
use Rattle.facing.proofs.pairs.counts_at.Goals as goal

pub returns-in_err-seen-in-Counts : goal.returns-in_err-seen-in-Counts
returns-in_err-seen-in-Counts c =
    let seen = rw c.in_err-seen-in-Counts.was at c.try_visit.ensures in
    rw (c.in-Counts.is, c.from_residual.ensures) (c.try_visit.new.self, refl, Err facing_wrong_handle, seen, (refl, refl))
