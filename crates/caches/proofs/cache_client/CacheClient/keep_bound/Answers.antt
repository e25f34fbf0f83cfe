use Rattle.caches.specs.Caches.{IsAny}
use Rattle.caches.proofs.Counting.{counted_none}
use Rattle.caches.proofs.Evicted.{evicted_none}
use Rattle.caches.proofs.cache_client.CacheClient.keep_bound.Goals as goal

pub returns-else-has_added-clause-evicted : goal.returns-else-has_added-clause-evicted
returns-else-has_added-clause-evicted g c = evicted_none (goal.E-step g) c.args.evicted.now c.args.self.now.client.pass

pub returns-else-has_added-clause-counted : goal.returns-else-has_added-clause-counted
returns-else-has_added-clause-counted g c = counted_none IsAny c.args.self.now.counts c.args.self.now.client.pass
