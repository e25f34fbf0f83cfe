-- The pairs up to here are copied, and there is room for them; what is beyond them is as it was.
use Rattle.std.proofs.Common.{◌≡◌, ◌≤◌, ◌++◌, List, length, take, drop, map}
use Rattle.facing_maps.specs.Pairs.{bytes_of}
use Rattle.facing_maps.proofs.pairs.copy_pairs.Given as goal

abbrev pub invariant-loop-pair : goal.invariant-loop-pair
invariant-loop-pair g l =
    ((done : List _) × (done ++ l.rest ≡ l.fn.pairs)
    × (length done ≡ l.count)
    × (l.count ≤ length l.key_lens)
    × (l.count ≤ length l.numbers)
    × (l.used ≤ length l.room)
    × (l.used ≡ length (bytes_of (g.L.Laying.laid l.fn.laying) done))
    × (take l.count l.key_lens ≡ map (λ pair. length pair.0.bytes) done)
    × (take l.count l.numbers ≡ map (λ pair. g.L.Laying.number l.fn.laying pair.1) done)
    × (take l.used l.room ≡ bytes_of (g.L.Laying.laid l.fn.laying) done)
    × (drop l.count l.key_lens ≡ drop l.count l.fn.key_lens)
    × (drop l.count l.numbers ≡ drop l.count l.fn.numbers)
    × (drop l.used l.room ≡ drop l.used l.fn.room))

abbrev pub decreases-loop-pair : goal.decreases-loop-pair
decreases-loop-pair g l = length l.rest
