use Rattle.std.proofs.Common.{◌-◌, ◌≤◌, vec_len}
use Rattle.map_bench.proofs.choice.begin_steps.Given as goal

abbrev pub invariant-loop-starts : goal.invariant-loop-starts
invariant-loop-starts l = vec_len l.starts ≤ 4096

abbrev pub decreases-loop-starts : goal.decreases-loop-starts
decreases-loop-starts l = 4096 - vec_len l.starts
