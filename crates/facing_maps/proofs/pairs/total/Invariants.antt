-- The bytes of the pairs up to here are counted.
use Rattle.std.proofs.Common.{◌≡◌, ◌++◌, List, length, min}
use Rattle.facing_maps.specs.Pairs.{bytes_of}
use Rattle.facing_maps.proofs.pairs.total.Given as goal

abbrev pub invariant-loop-pair : goal.invariant-loop-pair
invariant-loop-pair g l =
    ((done : List _) × (done ++ l.rest ≡ l.fn.pairs)
    × (l.total ≡ min (length (bytes_of (g.L.Laying.laid l.fn.laying) done)) 18446744073709551615))

abbrev pub decreases-loop-pair : goal.decreases-loop-pair
decreases-loop-pair g l = length l.rest
