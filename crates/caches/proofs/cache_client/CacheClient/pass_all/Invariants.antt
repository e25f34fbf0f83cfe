use Rattle.std.proofs.Common.{◌≡◌}
use Rattle.caches.specs.Caches.{HasCounted, HasEvicted, IsAny}
use Rattle.caches.proofs.cache_client.CacheClient.pass_all.Given as goal

-- what went so far was handed over and counted
abbrev pub invariant-loop-key : goal.invariant-loop-key
invariant-loop-key g l =
    (goal.iterator-loop-key g).can_next l.key-iterator
    × (goal.iterator-loop-key g).is_finite l.key-iterator
    × goal.E-IsAlwaysCallable g l.evicted
    × (l.self.client.map ≡ l.initial.self.client.map)
    × HasEvicted (goal.E-step g) l.initial.evicted l.evicted l.initial.self.client.pass l.self.client.pass
    × (l.self.most ≡ l.initial.self.most)
    × HasCounted IsAny l.initial.self.counts l.self.counts l.initial.self.client.pass l.self.client.pass
