use Rattle.std.proofs.Common.{◌≡◌, ◌+◌, length}
use Rattle.chm.proofs.resize.policy.is_crowded.Given as goal

abbrev pub invariant-loop-key : goal.invariant-loop-key
invariant-loop-key g l = length l.left + l._key ≡ length l.bin_slot.entries.entries
