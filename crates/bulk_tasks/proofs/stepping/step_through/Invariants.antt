use Rattle.std.proofs.Common.{take}
use Rattle.chm.specs.Headline.{entries_of}
use Rattle.bulk_tasks.proofs.stepping.step_through.Given as goal

abbrev pub invariant-loop-bin : goal.invariant-loop-bin
invariant-loop-bin g l = g.S.Stepper.reached l.stepper (entries_of (take l.bin-index l.bins)) l.part
