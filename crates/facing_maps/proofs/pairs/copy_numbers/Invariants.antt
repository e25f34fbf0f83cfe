-- The pairs up to here are copied, and there is room for them; the rest of the room is as it was.
use Rattle.std.proofs.Common.{◌≡◌, ℕ, ◌≤◌, ◌++◌, List, length, take, drop, map}
use Rattle.seeded_keys.specs.Mixing.{unmixed}
use Rattle.facing_maps.proofs.pairs.copy_numbers.Given as goal

abbrev pub invariant-loop-pair : goal.invariant-loop-pair
invariant-loop-pair l =
    ((done : List (ℕ × ℕ)) × (done ++ l.rest ≡ l.fn.pairs)
    × (length done ≡ l.count)
    × (l.count ≤ length l.keys)
    × (l.count ≤ length l.values)
    × (take l.count l.keys ≡ map (λ entry. unmixed l.fn.seed entry.0) done)
    × (take l.count l.values ≡ map (λ entry. entry.1) done)
    × (drop l.count l.keys ≡ drop l.count l.fn.keys)
    × (drop l.count l.values ≡ drop l.count l.fn.values))

abbrev pub decreases-loop-pair : goal.decreases-loop-pair
decreases-loop-pair l = length l.rest
