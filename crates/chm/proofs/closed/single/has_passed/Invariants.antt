use Rattle.std.proofs.Common.{◌≡◌, ℕ, ◌-◌, ◌*◌, ◌%◌, ◌^◌, ◌<◌, ◌≤◌}
use Rattle.chm.proofs.closed.single.has_passed.Given as goal

abbrev pub invariant-loop-size : goal.invariant-loop-size
invariant-loop-size l = (e : ℕ) × (k : ℕ) × (l.size ≡ l.n * 2 ^ e) × (l.fn.class.n ≡ l.n * 2 ^ k) × (e ≤ k)
    × (l.size ≤ l.widest)
    × ((j : ℕ) → j < e → l.hash % (l.n * 2 ^ j) ≡ l.fn.class.index % (l.n * 2 ^ j))

abbrev pub decreases-loop-size : goal.decreases-loop-size
decreases-loop-size l = l.widest - l.size
