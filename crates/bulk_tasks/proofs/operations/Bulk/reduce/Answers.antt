use Rattle.std.proofs.Common.{sym, ◌∙◌}
use Rattle.chm.specs.Headline.{entries_of}
use Rattle.bulk_tasks.proofs.operations.Bulk.reduce.Goals as goal

pub returns-clause-order : goal.returns-clause-order
returns-clause-order g c = λ es p. c.in_ok-gather.ensures.collected.0
    ∙ sym (c.any_order.ensures (entries_of c.args.self.now.quiet.now.bins) es p)
