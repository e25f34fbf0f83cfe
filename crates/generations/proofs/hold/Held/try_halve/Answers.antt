use Rattle.std.proofs.Common.{ap, ◌∙◌}
use Rattle.hashkeys.specs.Classes.{ClassView, low_half, high_half}
use Rattle.bin_history.specs.Calls.{after}
use Rattle.bin_history.proofs.Keys.{key_tells}
use Rattle.bin_layout.specs.Views.{place_of}
use Rattle.bin_layout.proofs.Places.{AreAt-half}
use Rattle.generations.proofs.hold.Held.try_halve.Goals as goal

pub fill-requires-clause-at : goal.fill-requires-clause-at
fill-requires-clause-at g c =
    AreAt-half g.K.PartialEq.eq (after g.V.PartialEq.eq g.F.Remap.remapped g.F.Remap.merged)
    (key_tells g.met.K.Eq.laws g.met.K.HashKey.equal_is_same) g.K.HashKey.code
    c.args.self.place.home.now c.args.self.place.at.now _ c.args.self.bin c.in-Ok-split.low
    c.args.self.role c.divide-low_role.result.0
    low_half
    c.requires.at c.args.self.place.at_home
    c.in-Ok-split.ensures.low_class
    c.in-Ok-split.ensures.low
    c.divide-low_role.ensures.low
    (c.in-Ok.ensures.low.1 ∙ ap (λ (x : ClassView). place_of c.args.self.place.home.now (low_half x)) c.class.ensures)

pub fill-requires-in-Ok-split-clause-at : goal.fill-requires-in-Ok-split-clause-at
fill-requires-in-Ok-split-clause-at g c =
    AreAt-half g.K.PartialEq.eq (after g.V.PartialEq.eq g.F.Remap.remapped g.F.Remap.merged)
    (key_tells g.met.K.Eq.laws g.met.K.HashKey.equal_is_same) g.K.HashKey.code
    c.args.self.place.home.now c.args.self.place.at.now _ c.args.self.bin c.in-Ok-split.high
    c.args.self.role c.divide-low_role.result.1
    high_half
    c.requires.at c.args.self.place.at_home
    c.in-Ok-split.ensures.high_class
    c.in-Ok-split.ensures.high
    c.divide-low_role.ensures.high
    (c.in-Ok.ensures.high.1 ∙ ap (λ (x : ClassView). place_of c.args.self.place.home.now (high_half x)) c.class.ensures)
