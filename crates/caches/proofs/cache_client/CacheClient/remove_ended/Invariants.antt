use Rattle.std.proofs.Common.{◌≡◌}
use Rattle.caches.specs.Caches.{HasCounted, HasEvicted, IsOfEnded}
use Rattle.caches.specs.Counted.{only_evictions}
use Rattle.caches.proofs.cache_client.CacheClient.remove_ended.Given as goal

-- what went so far, also of the bucket, had ended, was handed over and counted
abbrev pub invariant-loop : goal.invariant-loop
invariant-loop g l =
    record {
      can : goal.E-IsAlwaysCallable g l.evicted;
      map : l.self.client.map ≡ l.initial.self.client.map;
      most : l.self.most ≡ l.initial.self.most;
      evicted : HasEvicted (goal.E-step g) l.initial.evicted l.evicted l.initial.self.client.pass l.self.client.pass;
      counted : HasCounted (IsOfEnded l.time) l.initial.self.counts l.self.counts l.initial.self.client.pass
          l.self.client.pass;
      count : HasCounted (IsOfEnded l.time) (only_evictions 0) (only_evictions l.gone) l.initial.self.client.pass
          l.self.client.pass;
    }

abbrev pub invariant-loop-key : goal.invariant-loop-key
invariant-loop-key g l =
    (goal.iterator-loop-key g).can_next l.key-iterator
    × (goal.iterator-loop-key g).is_finite l.key-iterator
    × goal.E-IsAlwaysCallable g l.evicted
    × (l.self.client.map ≡ l.initial.self.client.map)
    × HasEvicted (goal.E-step g) l.initial.evicted l.evicted l.initial.self.client.pass l.self.client.pass
    × (l.self.most ≡ l.initial.self.most)
    × HasCounted (IsOfEnded l.time) l.initial.self.counts l.self.counts l.initial.self.client.pass l.self.client.pass
    × HasCounted (IsOfEnded l.time) (only_evictions l.initial.gone) (only_evictions l.gone) l.initial.self.client.pass
    l.self.client.pass
