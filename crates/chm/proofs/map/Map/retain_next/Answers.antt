use Rattle.std.proofs.Common.{refl, arith}
use Rattle.chm.proofs.Clearing.{unchanged}
use Rattle.chm.proofs.Removing.{HasRemoved-grows}
use Rattle.chm.proofs.map.Map.retain_next.Goals as goal

pub overflow_sub-removed : goal.overflow_sub-removed
overflow_sub-removed g c =
    let grew = HasRemoved-grows c.args.pass.now c.retain_class-done.new.pass c.retain_class-done.ensures.removed in omega arith

pub returns-in-Ok-clause-count : goal.returns-in-Ok-clause-count
returns-in-Ok-clause-count g c =
    let grew = HasRemoved-grows c.args.pass.now c.retain_class-done.new.pass c.retain_class-done.ensures.removed in omega arith

pub returns-in-Err-clause-stopped_count : goal.returns-in-Err-clause-stopped_count
returns-in-Err-clause-stopped_count g c =
    let grew = HasRemoved-grows c.args.pass.now c.retain_class-done.new.pass c.retain_class-done.ensures.removed in omega arith

pub returns-in_default-clause-removed : goal.returns-in_default-clause-removed
returns-in_default-clause-removed g c = unchanged c.args.pass.now c.args.pass.now refl
