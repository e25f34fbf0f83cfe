-- What is counted of the calls of a client.
use Rattle.std.specs.Prelude.{ℕ, ◌+◌, ◌-◌, ◌^◌, min, Bool, true, false, List, [], ◌∷◌}
use Rattle.caches.specs.declared.counts.CacheCounts.{CacheCounts}

-- a count stays at the last number of 64 bits
abbrev pub one_more : ℕ → ℕ
one_more count = min (count + 1) (2 ^ 64 - 1)

-- with a get that hit, or missed
abbrev pub with_get : Bool → CacheCounts → CacheCounts
with_get true counts = record counts { hits = one_more counts.hits }
with_get false counts = record counts { misses = one_more counts.misses }

-- with one more entry that was evicted
abbrev pub with_eviction : CacheCounts → CacheCounts
with_eviction counts = record counts { evictions = one_more counts.evictions }

-- with each of these entries
abbrev pub with_evictions : {E : Type 0} → List E → CacheCounts → CacheCounts
with_evictions [] counts = counts
with_evictions (e ∷ es) counts = with_evictions es (with_eviction counts)

-- so many evictions, and nothing else
abbrev pub only_evictions : ℕ → CacheCounts
only_evictions n = record { hits = 0; misses = 0; evictions = n }

-- with one more, where an entry is gone
abbrev pub if_gone : Bool → CacheCounts → CacheCounts
if_gone true counts = with_eviction counts
if_gone false counts = counts
