use Rattle.std.proofs.Common.{refl}
use Rattle.caches.specs.Caches.{IsAny}
use Rattle.caches.proofs.Counting.{counted_look, counted_more, counted_same}
use Rattle.caches.proofs.Full.{fails_as, fails_by, made_all_still, ok_fails}
use Rattle.caches.proofs.Evicted.{evicted_look, evicted_more, evicted_same}
use Rattle.chm.specs.declared.fault.Fault.TheVariants.{PassFull}
use Rattle.caches.proofs.cache_client.CacheClient.make_room.Goals as goal

pub returns-in_err-contains_key-clause-evicted : goal.returns-in_err-contains_key-clause-evicted
returns-in_err-contains_key-clause-evicted g c =
    evicted_same (goal.E-step g) c.args.evicted.now c.args.evicted.now c.args.self.now.client.pass
    c.contains_key.new.self.pass refl c.in_err-contains_key.ensures.answered.refused

pub returns-then-branch-clause-evicted : goal.returns-then-branch-clause-evicted
returns-then-branch-clause-evicted g c =
    evicted_look (goal.E-step g) g.K.PartialEq.eq g.V.PartialEq.eq c.args.self.now.client.map.ledger c.args.key.now
    c.args.self.now.client.pass c.contains_key.new.self.pass c.args.evicted.now _
    c.in_ok-contains_key.ensures.answered.called

pub returns-clause-evicted : goal.returns-clause-evicted
returns-clause-evicted g c =
    evicted_more (goal.E-step g) c.args.evicted.now c.args.evicted.now c.evict_to.new.evicted
    c.args.self.now.client.pass c.contains_key.new.self.pass c.evict_to.new.self.client.pass
    (evicted_look (goal.E-step g) g.K.PartialEq.eq g.V.PartialEq.eq c.args.self.now.client.map.ledger c.args.key.now
    c.args.self.now.client.pass c.contains_key.new.self.pass c.args.evicted.now _
    c.in_ok-contains_key.ensures.answered.called)
    c.evict_to.ensures.evicted

pub returns-in_err-contains_key-clause-counted : goal.returns-in_err-contains_key-clause-counted
returns-in_err-contains_key-clause-counted g c =
    counted_same IsAny c.args.self.now.counts c.args.self.now.counts c.args.self.now.client.pass
    c.contains_key.new.self.pass refl c.in_err-contains_key.ensures.answered.refused

pub returns-then-branch-clause-counted : goal.returns-then-branch-clause-counted
returns-then-branch-clause-counted g c =
    counted_look IsAny g.K.PartialEq.eq g.V.PartialEq.eq c.args.self.now.client.map.ledger c.args.key.now
    c.args.self.now.client.pass c.contains_key.new.self.pass c.args.self.now.counts _
    c.in_ok-contains_key.ensures.answered.called (λ r. tt)

pub returns-clause-counted : goal.returns-clause-counted
returns-clause-counted g c =
    counted_more IsAny c.args.self.now.counts c.args.self.now.counts c.evict_to.new.self.counts
    c.args.self.now.client.pass c.contains_key.new.self.pass c.evict_to.new.self.client.pass
    (counted_look IsAny g.K.PartialEq.eq g.V.PartialEq.eq c.args.self.now.client.map.ledger c.args.key.now
    c.args.self.now.client.pass c.contains_key.new.self.pass c.args.self.now.counts _
    c.in_ok-contains_key.ensures.answered.called (λ r. tt))
    c.evict_to.ensures.counted

pub returns-in_err-contains_key-clause-full : goal.returns-in_err-contains_key-clause-full
returns-in_err-contains_key-clause-full g c = λ is.
    made_all_still c.args.self.now.client.map c.contains_key.new.self.map c.args.self.now.client.pass
    c.contains_key.new.self.pass c.contains_key.ensures.map c.in_err-contains_key.ensures.answered.refused
    (c.in_err-contains_key.ensures.answered.full.0
    (fails_by c.from_residual.result _ PassFull c.from_residual.ensures.1 is))

pub returns-in_err-contains_key-clause-stops : goal.returns-in_err-contains_key-clause-stops
returns-in_err-contains_key-clause-stops g c = λ all. (
  fails_as c.from_residual.result _ PassFull c.from_residual.ensures.1
      (c.in_err-contains_key.ensures.answered.full.1 all),
  c.in_err-contains_key.ensures.answered.refused,
  refl,
)

pub returns-then-branch-clause-stops : goal.returns-then-branch-clause-stops
returns-then-branch-clause-stops g c = λ all. absurd (ok_fails _ PassFull (c.in_ok-contains_key.ensures.answered.full.1 all))

pub returns-clause-stops : goal.returns-clause-stops
returns-clause-stops g c = λ all. absurd (ok_fails _ PassFull (c.in_ok-contains_key.ensures.answered.full.1 all))
