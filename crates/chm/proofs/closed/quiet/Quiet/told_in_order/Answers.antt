use Rattle.std.proofs.Common.{subst}
use Rattle.bin_history.specs.Calls.{after}
use Rattle.bin_history.proofs.Keys.{key_tells}
use Rattle.chm.specs.Headline.{IsQuiet, QuietView}
use Rattle.chm.proofs.Ordering.{IsOneOrder-closed, AreToldInOrder-closed}
use Rattle.chm.proofs.closed.quiet.Quiet.told_in_order.Goals as goal

pub returns : goal.returns
returns g c =
    let Whole : QuietView _ _ _ → Type 0 =
    λ q. IsQuiet g.K.PartialEq.eq g.K.HashKey.code (after g.V.PartialEq.eq g.F.Remap.remapped g.F.Remap.merged) q in
    let quiet = subst Whole c.self.view_is c.self.invariant.0 in
    let (calls, order) = quiet.books.order in (
      calls,
      IsOneOrder-closed g.K.PartialEq.eq (key_tells g.met.K.Eq.laws g.met.K.HashKey.equal_is_same) g.K.HashKey.code
          (after g.V.PartialEq.eq g.F.Remap.remapped g.F.Remap.merged) _ calls quiet order,
      AreToldInOrder-closed g.K.PartialEq.eq (key_tells g.met.K.Eq.laws g.met.K.HashKey.equal_is_same) g.K.HashKey.code
          (after g.V.PartialEq.eq g.F.Remap.remapped g.F.Remap.merged) _ calls quiet order,
    )
