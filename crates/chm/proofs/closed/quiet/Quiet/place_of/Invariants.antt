use Rattle.std.proofs.Common.{ℕ, ◌-◌, ◌<◌, ◌≤◌, length, get_or}
use Rattle.bin_history.specs.Lawful.{BinView}
use Rattle.bin_layout.specs.Walks.{HasPassed}
use Rattle.chm.proofs.closed.quiet.Quiet.place_of.Given as goal

abbrev pub invariant-loop-low : goal.invariant-loop-low
invariant-loop-low g l = (l.low ≤ l.high) × (l.high ≤ length l.self.bins)
    × ((d : BinView _ _ _) (j : ℕ) → j < l.low → HasPassed l.self.n (get_or l.self.bins j d).class l.hash → ⊥)
    × ((d : BinView _ _ _) (j : ℕ) → l.high ≤ j → j < length l.self.bins
    → HasPassed l.self.n (get_or l.self.bins j d).class l.hash)

abbrev pub decreases-loop-low : goal.decreases-loop-low
decreases-loop-low g l = l.high - l.low
