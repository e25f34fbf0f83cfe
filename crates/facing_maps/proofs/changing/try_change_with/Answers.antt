use Rattle.std.proofs.Common.{rules, option_copied}
use Rattle.facing_maps.proofs.Weaker.{some-by, update-by}
use Rattle.facing_maps.proofs.changing.try_change_with.Goals as goal

pub returns-clause-updated : goal.returns-clause-updated
returns-clause-updated g c = some-by (update-by _ _ _ _ _ (λ shown made. g.C.Changing.changes c.args.changing (option_copied shown) made)
    (λ shown made p. search rules) _ _ _ _) c.try_update.result c.try_update.ensures.updated
