use Rattle.std.proofs.Common.{◌≡◌, vec_len, vec_capacity, ◌≤◌}
use Rattle.chm.proofs.resize.resizer.Resizer.new.Given as goal

abbrev pub invariant-loop-exponent : goal.invariant-loop-exponent
invariant-loop-exponent g l = (vec_len l.moves ≡ l._exponent) × (26 ≤ vec_capacity l.moves)
