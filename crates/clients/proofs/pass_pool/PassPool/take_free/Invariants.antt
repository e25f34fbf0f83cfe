use Rattle.clients.proofs.pass_pool.PassPool.take_free.Given as goal

abbrev pub invariant-loop-try : goal.invariant-loop-try
invariant-loop-try g l = Unit {0}
