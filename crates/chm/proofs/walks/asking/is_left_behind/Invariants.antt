use Rattle.std.proofs.Common.{◌≡◌, ◌++◌, [], List, drop}
use Rattle.hashkeys.specs.Classes.{is_of}
use Rattle.bin_history.specs.Part.{part_of_entries}
use Rattle.chm.proofs.walks.asking.is_left_behind.Given as goal

-- no entry so far is of the class
abbrev pub invariant-loop-entry : goal.invariant-loop-entry
invariant-loop-entry g l =
    (done : List _) × (drop l.fn.past l.fn.walk ≡ done ++ l.left)
    × (part_of_entries (is_of g.K.HashKey.code l.fn.salt l.fn.class) done ≡ [])
