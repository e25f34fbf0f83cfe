-- What an entry of a cache has at a time.
use Rattle.std.specs.Prelude.{ℕ, Bool, true, false, Option, Some, None, nat_lt}
use Rattle.caches.specs.declared.entry.CacheEntry.{CacheEntry}

-- two entries are equal where their values are
abbrev pub same_entry : {V : Type 0} → (V → V → Bool) → CacheEntry V → CacheEntry V → Bool
same_entry same_value x y = same_value x.value y.value

-- a deadline, where there is one, is still to come
abbrev pub is_ahead : ℕ → Option ℕ → Bool
is_ahead time None = true
is_ahead time (Some deadline) = nat_lt time deadline

abbrev pub is_live : {V : Type 0} → ℕ → CacheEntry V → Bool
is_live time e = is_ahead time e.deadline

-- this value, where the entry has not ended
abbrev pub value_if : {V : Type 0} → Bool → V → Option V
value_if true value = Some value
value_if false value = None

-- the value of an entry that has not ended, if there is an entry
abbrev pub live_value : {V : Type 0} → ℕ → Option (CacheEntry V) → Option V
live_value time None = None
live_value time (Some e) = value_if (is_live time e) e.value

-- the entry, used where it has not ended
abbrev pub used_if : {V : Type 0} → Bool → CacheEntry V → CacheEntry V
used_if true e = record e { used = true }
used_if false e = e

abbrev pub used_at : {V : Type 0} → ℕ → CacheEntry V → CacheEntry V
used_at time e = used_if (is_live time e) e
