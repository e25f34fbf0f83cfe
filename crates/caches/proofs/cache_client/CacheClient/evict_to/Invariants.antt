use Rattle.std.proofs.Common.{◌≡◌}
use Rattle.caches.specs.Caches.{HasCounted, HasEvicted, IsAny}
use Rattle.caches.proofs.cache_client.CacheClient.evict_to.Given as goal

-- what went so far was handed over and counted
abbrev pub invariant-loop : goal.invariant-loop
invariant-loop g l =
    record {
      can : goal.E-IsAlwaysCallable g l.evicted;
      map : l.self.client.map ≡ l.initial.self.client.map;
      most : l.self.most ≡ l.initial.self.most;
      evicted : HasEvicted (goal.E-step g) l.initial.evicted l.evicted l.initial.self.client.pass l.self.client.pass;
      counted : HasCounted IsAny l.initial.self.counts l.self.counts l.initial.self.client.pass l.self.client.pass;
    }
