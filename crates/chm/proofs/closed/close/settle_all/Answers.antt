use Rattle.std.proofs.Common.{Option, sym, subst}
use Rattle.count_ledger.specs.Settled.{HasOrderFrom}
use Rattle.chm.specs.Closing.{passes_with, seen_with}
use Rattle.chm.specs.declared.closed.close.Rest.{Rest}
use Rattle.chm.proofs.closed.close.settle_all.Goals as goal

pub returns-in-Ok-settle_with-clause-known : goal.returns-in-Ok-settle_with-clause-known
returns-in-Ok-settle_with-clause-known g c =
    subst (λ (r : Option (Rest _ _ _)). HasOrderFrom g.K.HashKey.code c.args.ledger (seen_with r)
    (passes_with r c.args.passes.items) c.args.roles.items) (sym c.in-Some.is) c.in-Ok-settle_with.ensures.known
