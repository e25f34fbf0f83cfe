use Rattle.std.proofs.Common.{ap, sym, ◌∙◌, refl}
use Rattle.hashkeys.specs.Classes.{IsClass}
use Rattle.bin_layout.proofs.Sizes.{exponent_is}
use Rattle.lean_bins.proofs.SlotRefs.{size_few}
use Rattle.chm.specs.Cursors.{CursorView}
use Rattle.chm.proofs.Stepping.{IsNumberOf-at}
use Rattle.chm.proofs.walks.cursor.Cursor.number.Goals as goal

pub returns-in-Some : goal.returns-in-Some
returns-in-Some c =
    let e = c.ilog2.result in
    let power = exponent_is c.self.inside.n e c.self.invariant.0 c.ilog2.ensures.power_le c.ilog2.ensures.next_power_gt in
    let n_is = ap (λ (v : CursorView). v.n) c.self.view_is in
    let at = sym (ap (λ (v : CursorView). v.next) c.self.view_is) ∙ c.in-Some.is in
    let class : IsClass c.in-Some.class = c.n.ensures.class in (
      e,
      size_few e c.self.inside.n c.self.invariant.0 c.ilog2.ensures.power_le,
      sym (power ∙ n_is),
      IsNumberOf-at e c.args.self.now.next c.in-Some.class _ at class
          (rw (c.from.ensures, c.from-in-Some.ensures, c.from-in-Some-2.ensures, c.index.ensures) refl),
    )
