use Rattle.transfer.proofs.strides.Strides.finish.Goals as goal

pub finish_range-found-requires-clause-unfinished : goal.finish_range-found-requires-clause-unfinished
finish_range-found-requires-clause-unfinished g c = rw (← c.mover.view_is) at c.requires.range.unfinished
