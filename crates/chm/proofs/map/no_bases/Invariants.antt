use Rattle.std.proofs.Common.{◌≡◌, ◌≤◌, [], replicate, vec_len, vec_capacity}
use Rattle.count_ledger.specs.Opening.{lists_of}
use Rattle.chm.proofs.map.no_bases.Given as goal

abbrev pub invariant-loop-index : goal.invariant-loop-index
invariant-loop-index g l = (lists_of l.bases ≡ replicate l._index []) × (vec_len l.bases ≡ l._index)
    × (l.n ≤ vec_capacity l.bases)
