use denote.Param.Always.{always_mut}
use Rattle.std.specs.List.{FoldsTo}
use Rattle.chm.specs.Cursors.{IsUsedAt}
use Rattle.chm.proofs.walks.of_class.use_at_each.Given as goal

-- what is left to go over goes on from what the function has become
abbrev pub invariant-loop-entry : goal.invariant-loop-entry
invariant-loop-entry g l =
    always_mut g.G.FnMut l.f
    × ((last : _) → FoldsTo (IsUsedAt (goal.G-step g)) l.f l.left last →
    FoldsTo (IsUsedAt (goal.G-step g)) l.initial.f l.fn.walk last)
