use Rattle.bin_history.specs.Calls.{after}
use Rattle.bin_layout.proofs.Lists.{classes_of_bins_and_roles}
use Rattle.generations.proofs.generations.Generations.into_leaves.Goals as goal

pub returns-then-take_all-clause-walk : goal.returns-then-take_all-clause-walk
returns-then-take_all-clause-walk g c = c.take_all.ensures.walk c.if-take_all.true

pub returns-then-take_all-clause-with_roles : goal.returns-then-take_all-clause-with_roles
returns-then-take_all-clause-with_roles g c = c.take_all.ensures.with_roles c.if-take_all.true

pub returns-then-take_all-clause-classes : goal.returns-then-take_all-clause-classes
returns-then-take_all-clause-classes g c =
    classes_of_bins_and_roles g.K.PartialEq.eq g.K.HashKey.code
    (after g.V.PartialEq.eq g.F.Remap.remapped g.F.Remap.merged) c.args.self
    c.take_all.new.bins.items c.take_all.new.roles.items (c.take_all.ensures.with_roles c.if-take_all.true)

pub returns-then-take_all-clause-few : goal.returns-then-take_all-clause-few
returns-then-take_all-clause-few g c = c.take_all.ensures.few c.if-take_all.true
