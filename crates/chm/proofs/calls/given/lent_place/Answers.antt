use Rattle.std.proofs.Common.{refl, subst}
use Rattle.std.specs.Fn.{FnOnceReturnsAtMut}
use Rattle.chm.proofs.Giving.{on_err}
use Rattle.chm.proofs.calls.given.lent_place.Goals as goal

pub returns : goal.returns
returns g c =
    let met : FnOnceReturnsAtMut g.G.FnOnce c.args.f c.args.value c.f-answer.result c.f-answer.new.arg2 =
    record { shown = _; shows = refl; left = _; met = c.f-answer.ensures; leaves = refl } in (
      met,
      on_err c.f-answer.result (λ error failed. c.requires.keeps c.args.value error c.f-answer.new.arg2
          (subst (λ r. FnOnceReturnsAtMut g.G.FnOnce c.args.f c.args.value r c.f-answer.new.arg2) failed met)),
    )
