use Rattle.std.proofs.Common.{◌-◌, ◌≤◌, vec_len}
use Rattle.map_bench.proofs.choice.steps.Given as goal

abbrev pub invariant-loop-rank : goal.invariant-loop-rank
invariant-loop-rank l = vec_len l.starts ≤ 4096

abbrev pub invariant-loop-starts : goal.invariant-loop-starts
invariant-loop-starts l = vec_len l.starts ≤ 4097

abbrev pub decreases-loop-starts : goal.decreases-loop-starts
decreases-loop-starts l = 4097 - vec_len l.starts
