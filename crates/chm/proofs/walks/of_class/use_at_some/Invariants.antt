use denote.Param.Always.{always_mut}
use Rattle.std.specs.List.{FoldsTo}
use Rattle.hashkeys.specs.Classes.{is_of}
use Rattle.bin_history.specs.Part.{part_of_entries}
use Rattle.chm.specs.Cursors.{IsUsedAt}
use Rattle.chm.proofs.walks.of_class.use_at_some.Given as goal

-- what of the class is left to go over goes on from what the function has become
abbrev pub invariant-loop-entry : goal.invariant-loop-entry
invariant-loop-entry g l =
    always_mut g.G.FnMut l.f
    × ((last : _) → FoldsTo (IsUsedAt (goal.G-step g)) l.f
    (part_of_entries (is_of g.K.HashKey.code l.fn.salt l.fn.class) l.left) last →
    FoldsTo (IsUsedAt (goal.G-step g)) l.initial.f
    (part_of_entries (is_of g.K.HashKey.code l.fn.salt l.fn.class) l.fn.walk) last)
