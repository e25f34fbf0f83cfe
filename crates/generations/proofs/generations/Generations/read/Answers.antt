use Rattle.std.proofs.Common.{◌≡◌, ◌≤◌, true}
use Rattle.hashkeys.specs.Classes.{ClassView, covers}
use Rattle.bin_history.specs.Calls.{after}
use Rattle.bin_layout.proofs.Places.{AreAt-class}
use Rattle.generations.proofs.generations.Generations.read.Goals as goal

pub returns-in-Some-of-clause-covers : goal.returns-in-Some-of-clause-covers
returns-in-Some-of-clause-covers g c =
    AreAt-class g.K.PartialEq.eq (after g.V.PartialEq.eq g.F.Remap.remapped g.F.Remap.merged)
    (λ (class : ClassView). covers class c.args.hash ≡ true) c.in-Some-of.shown c.find-class.result.0.now
    c.in-Some-of.ensures.at c.find-class.ensures.covers

pub returns-in-Some-of-clause-least : goal.returns-in-Some-of-clause-least
returns-in-Some-of-clause-least g c =
    AreAt-class g.K.PartialEq.eq (after g.V.PartialEq.eq g.F.Remap.remapped g.F.Remap.merged)
    (λ (class : ClassView). c.args.self.now.n ≤ class.n) c.in-Some-of.shown c.find-class.result.0.now
    c.in-Some-of.ensures.at c.find-class.ensures.of_map.least
