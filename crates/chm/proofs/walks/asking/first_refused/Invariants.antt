use denote.Param.Always.{always_mut}
use Rattle.std.proofs.Common.{◌≡◌, ◌+◌, ◌++◌, List, drop, length}
use Rattle.hashkeys.specs.Classes.{is_of}
use Rattle.bin_history.specs.Part.{part_of_entries}
use Rattle.chm.specs.Retained.{HasKeptAll}
use Rattle.chm.proofs.walks.asking.first_refused.Given as goal

-- the function returned true for each entry of the class so far
abbrev pub invariant-loop-entry : goal.invariant-loop-entry
invariant-loop-entry g l =
    always_mut g.G.FnMut l.keeps
    × ((done : List _) × (drop l.fn.past l.fn.walk ≡ done ++ l.left) × (l.place ≡ l.fn.past + length done)
    × HasKeptAll (goal.G-step g) l.initial.keeps
    (part_of_entries (is_of g.K.HashKey.code l.fn.salt l.fn.class) done) l.keeps)
