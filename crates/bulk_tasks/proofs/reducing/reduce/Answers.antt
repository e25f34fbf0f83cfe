use Rattle.bulk_tasks.proofs.reducing.reduce.Goals as goal

pub returns-clause-order : goal.returns-clause-order
returns-clause-order g c = rw c.new.ensures.quiet at c.reduce.ensures.order
