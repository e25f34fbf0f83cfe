use Rattle.std.proofs.Common.{Bool, refl, rules, true}
use Rattle.caches.specs.Caches.{IsAny, IsOfEnded}
use Rattle.caches.proofs.Counting.{counted_same, of_ended, pass_counted}
use Rattle.caches.proofs.Evicted.{evicted_same}
use Rattle.caches.proofs.Full.{fault_of, made_all_still}
use Rattle.caches.specs.Counted.{if_gone, only_evictions}
use Rattle.chm.specs.declared.fault.Fault.TheVariants.{PassFull}
use Rattle.caches.proofs.cache_client.CacheClient.pass.Goals as goal

pub returns-in-Err-clause-evicted : goal.returns-in-Err-clause-evicted
returns-in-Err-clause-evicted g c =
    evicted_same (goal.E-step g) c.args.evicted.now c.args.evicted.now c.args.self.now.client.pass
    c.update_owned-passed.new.self.pass refl c.in-Err.ensures.made.refused

pub returns-in-Ok-Some-clause-counted : goal.returns-in-Ok-Some-clause-counted
returns-in-Ok-Some-clause-counted g c =
    let (before, left, posted, called) = c.in-Ok-Some.ensures.made.made in
    pass_counted IsAny g.K.PartialEq.eq g.V.PartialEq.eq c.args.self.now.client.map.ledger c.args.key
    c.args.self.now.client.pass c.update_owned-passed.new.self.pass c.args.self.now.counts c.with_eviction-self.result before left
    c.in-Ok-Some.field-0 _ (search (rules, posted)) c.in-Ok-Some.field-0-is c.with_eviction-self.ensures called (λ r _ _. tt)

pub returns-in-Ok-Some-clause-live : goal.returns-in-Ok-Some-clause-live
returns-in-Ok-Some-clause-live g c = λ live.
    let (before, left, posted, called) = c.in-Ok-Some.ensures.made.made in
    pass_counted (IsOfEnded c.args.time) g.K.PartialEq.eq g.V.PartialEq.eq c.args.self.now.client.map.ledger c.args.key
    c.args.self.now.client.pass c.update_owned-passed.new.self.pass c.args.self.now.counts c.with_eviction-self.result before left
    c.in-Ok-Some.field-0 _ (search (rules, posted)) c.in-Ok-Some.field-0-is c.with_eviction-self.ensures called
    (of_ended c.args.time before left (search (rules, posted, live)))

pub returns-in-Ok-None-clause-counted : goal.returns-in-Ok-None-clause-counted
returns-in-Ok-None-clause-counted g c =
    let (before, left, posted, called) = c.in-Ok-None.ensures.made.made in
    pass_counted IsAny g.K.PartialEq.eq g.V.PartialEq.eq c.args.self.now.client.map.ledger c.args.key
    c.args.self.now.client.pass c.update_owned-passed.new.self.pass c.args.self.now.counts c.args.self.now.counts before left
    c.in-Ok-None.field-0 _ (search (rules, posted)) c.in-Ok-None.field-0-is refl called (λ r _ _. tt)

pub returns-in-Ok-None-clause-live : goal.returns-in-Ok-None-clause-live
returns-in-Ok-None-clause-live g c = λ live.
    let (before, left, posted, called) = c.in-Ok-None.ensures.made.made in
    pass_counted (IsOfEnded c.args.time) g.K.PartialEq.eq g.V.PartialEq.eq c.args.self.now.client.map.ledger c.args.key
    c.args.self.now.client.pass c.update_owned-passed.new.self.pass c.args.self.now.counts c.args.self.now.counts before left
    c.in-Ok-None.field-0 _ (search (rules, posted)) c.in-Ok-None.field-0-is refl called
    (of_ended c.args.time before left (search (rules, posted, live)))

pub returns-in-Err-clause-counted : goal.returns-in-Err-clause-counted
returns-in-Err-clause-counted g c =
    counted_same IsAny c.args.self.now.counts c.args.self.now.counts c.args.self.now.client.pass
    c.update_owned-passed.new.self.pass refl c.in-Err.ensures.made.refused

pub returns-in-Err-clause-live : goal.returns-in-Err-clause-live
returns-in-Err-clause-live g c = λ live.
    counted_same (IsOfEnded c.args.time) c.args.self.now.counts c.args.self.now.counts c.args.self.now.client.pass
    c.update_owned-passed.new.self.pass refl c.in-Err.ensures.made.refused

pub returns-in-Ok-Some-clause-told : goal.returns-in-Ok-Some-clause-told
returns-in-Ok-Some-clause-told g c = λ live n.
    let (before, left, posted, called) = c.in-Ok-Some.ensures.made.made in
    pass_counted (IsOfEnded c.args.time) g.K.PartialEq.eq g.V.PartialEq.eq c.args.self.now.client.map.ledger c.args.key
    c.args.self.now.client.pass c.update_owned-passed.new.self.pass (only_evictions n) (if_gone true (only_evictions n)) before left
    c.in-Ok-Some.field-0 _ (search (rules, posted)) c.in-Ok-Some.field-0-is refl called
    (of_ended c.args.time before left (search (rules, posted, live)))

pub returns-in-Ok-None-clause-told : goal.returns-in-Ok-None-clause-told
returns-in-Ok-None-clause-told g c = λ live n.
    let (before, left, posted, called) = c.in-Ok-None.ensures.made.made in
    pass_counted (IsOfEnded c.args.time) g.K.PartialEq.eq g.V.PartialEq.eq c.args.self.now.client.map.ledger c.args.key
    c.args.self.now.client.pass c.update_owned-passed.new.self.pass (only_evictions n) (only_evictions n) before left
    c.in-Ok-None.field-0 _ (search (rules, posted)) c.in-Ok-None.field-0-is refl called
    (of_ended c.args.time before left (search (rules, posted, live)))

pub returns-in-Err-clause-full : goal.returns-in-Err-clause-full
returns-in-Err-clause-full g c = λ is.
    made_all_still c.args.self.now.client.map c.update_owned-passed.new.self.map c.args.self.now.client.pass
    c.update_owned-passed.new.self.pass c.update_owned-passed.ensures.map c.in-Err.ensures.made.refused
    (c.in-Err.ensures.made.full.0 (fault_of {T = Bool} c.in-Err.refused.fault PassFull is))
