use Rattle.generations.proofs.generations.Generations.find.Given as goal

abbrev pub invariant-loop-narrower : goal.invariant-loop-narrower
invariant-loop-narrower g l = Unit {0}
