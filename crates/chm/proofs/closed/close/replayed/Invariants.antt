use Rattle.std.proofs.Common.{◌≡◌}
use Rattle.std.specs.List.{AllWithin}
use Rattle.bin_history.specs.Entries.{replay}
use Rattle.chm.proofs.closed.close.replayed.Given as goal

abbrev pub invariant-loop-bin : goal.invariant-loop-bin
invariant-loop-bin g l = AllWithin (λ b. b.entries ≡ replay g.K.PartialEq.eq b.base b.records) l.bins 0 l.bin-index
