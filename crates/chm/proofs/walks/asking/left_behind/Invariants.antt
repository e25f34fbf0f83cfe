use Rattle.std.proofs.Common.{◌≡◌, drop}
use Rattle.chm.proofs.walks.asking.left_behind.Given as goal

-- the entries so far were gone past
abbrev pub invariant-loop-place : goal.invariant-loop-place
invariant-loop-place g l = drop l._place l.fn.walk ≡ l.left
