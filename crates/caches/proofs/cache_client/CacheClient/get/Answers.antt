use Rattle.std.proofs.Common.{rules}
use Rattle.caches.proofs.Got.{got_of, got_sure}
use Rattle.caches.proofs.cache_client.CacheClient.get.Goals as goal

pub returns-clause-got : goal.returns-clause-got
returns-clause-got g c =
    got_of g.K.PartialEq.eq g.V.PartialEq.eq c.args.time _ c.args.self.now.client.map.ledger c.args.key.now
    c.args.self.now.client.pass c.modify.new.self.pass c.in_ok-used.used c.count_get.result c.count_get.new.self.client.pass
    c.in_ok-used.ensures.modified c.count_get.ensures.value c.count_get.ensures.copied c.count_get.ensures.faults
    c.count_get.ensures.pass (λ before answer put did. search rules)

pub returns-clause-sure : goal.returns-clause-sure
returns-clause-sure g c = λ lean never.
    got_sure g.K.PartialEq.eq g.V.PartialEq.eq c.args.time _ c.args.self.now.client.map.ledger c.args.key.now
    c.args.self.now.client.pass c.modify.new.self.pass c.in_ok-used.used c.count_get.result
    c.in_ok-used.ensures.modified c.count_get.ensures.copied (λ before answer put did. search (rules, never))
