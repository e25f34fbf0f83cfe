use Rattle.std.proofs.Common.{refl, Err}
use Rattle.facing_maps.specs.Statuses.{facing_wrong_handle}
use Rattle.facing.proofs.pairs.numbers_at.Goals as goal

pub returns-in_err-seen-in-Numbers : goal.returns-in_err-seen-in-Numbers
returns-in_err-seen-in-Numbers c =
    let seen = rw c.in_err-seen-in-Numbers.was at c.try_visit.ensures in
    rw (c.in-Numbers.is, c.from_residual.ensures) (c.try_visit.new.self, refl, Err facing_wrong_handle, seen, (refl, refl))
