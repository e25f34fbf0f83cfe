use Rattle.std.proofs.Common.{◌≡◌, take}
use Rattle.bin_history.specs.Part.{part_of_records}
use Rattle.hashkeys.specs.Classes.{is_of}
use Rattle.bin_history.proofs.split.part_of_records.Given as goal

abbrev pub invariant-loop-entry : goal.invariant-loop-entry
invariant-loop-entry g l = l.part.items ≡ part_of_records (is_of g.K.HashKey.code l.salt l.class)
    (take l.entry-index l.records)
