use Rattle.std.proofs.Common.{arith}
use Rattle.chm.proofs.Removing.{HasRemoved-grows}
use Rattle.chm.proofs.map.Map.retain_from.Goals as goal

pub overflow_sub-removed : goal.overflow_sub-removed
overflow_sub-removed g c =
    let grew = HasRemoved-grows c.args.pass.now c.retain_walk-done.new.pass c.retain_walk-done.ensures.removed in omega arith

pub returns-in-Ok-clause-count : goal.returns-in-Ok-clause-count
returns-in-Ok-clause-count g c =
    let grew = HasRemoved-grows c.args.pass.now c.retain_walk-done.new.pass c.retain_walk-done.ensures.removed in omega arith

pub returns-in-Err-clause-stopped_count : goal.returns-in-Err-clause-stopped_count
returns-in-Err-clause-stopped_count g c =
    let grew = HasRemoved-grows c.args.pass.now c.retain_walk-done.new.pass c.retain_walk-done.ensures.removed in omega arith
