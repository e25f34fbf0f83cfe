use Rattle.std.proofs.Common.{refl}
use Rattle.chm.proofs.calls.given.lent_or.Goals as goal

pub returns : goal.returns
returns g c = (
  c.f-answer.new.arg2,
  refl,
  record { shown = _; shows = c.unwrap_or-value.ensures; left = _; met = c.f-answer.ensures; leaves = refl },
)
