use Rattle.std.proofs.Common.{refl, ◌∙◌}
use Rattle.caches.specs.Caches.{IsOfEnded}
use Rattle.caches.specs.Counted.{only_evictions}
use Rattle.caches.proofs.Counting.{counted_more, counted_none, counted_then, counted_told}
use Rattle.caches.proofs.Evicted.{evicted_more, evicted_none, evicted_then}
use Rattle.caches.proofs.Full.{fails_by, short_is_not_full}
use Rattle.chm.specs.declared.fault.Fault.TheVariants.{NoMemory, PassFull}
use Rattle.caches.proofs.cache_client.CacheClient.remove_ended.Goals as goal

pub returns-in_err-is_gone-clause-evicted : goal.returns-in_err-is_gone-clause-evicted
returns-in_err-is_gone-clause-evicted g c =
    evicted_then (goal.E-step g) c.args.evicted.now c.loop.evicted c.pass.new.evicted c.args.self.now.client.pass
    c.loop.self.client.pass c.keys_of_next.new.client.pass c.pass.new.self.client.pass c.loop.invariant.evicted
    c.keys_of_next.ensures.seen
    (evicted_more (goal.E-step g) c.loop.evicted c.loop-key.evicted c.pass.new.evicted c.keys_of_next.new.client.pass
    c.loop-key.self.client.pass c.pass.new.self.client.pass c.loop-key.invariant.4 c.pass.ensures.evicted)

pub returns-in_err-is_gone-clause-counted : goal.returns-in_err-is_gone-clause-counted
returns-in_err-is_gone-clause-counted g c =
    counted_then (IsOfEnded c.args.time) c.args.self.now.counts c.loop.self.counts c.loop.self.counts
    c.pass.new.self.counts c.args.self.now.client.pass c.loop.self.client.pass c.keys_of_next.new.client.pass
    c.pass.new.self.client.pass c.loop.invariant.counted refl c.keys_of_next.ensures.seen
    (counted_more (IsOfEnded c.args.time) c.loop.self.counts c.loop-key.self.counts c.pass.new.self.counts
    c.keys_of_next.new.client.pass c.loop-key.self.client.pass c.pass.new.self.client.pass c.loop-key.invariant.6
    (c.pass.ensures.live refl))

pub loop-key-init : goal.loop-key-init
loop-key-init g c = (
  tt,
  tt,
  c.loop.invariant.can,
  refl,
  evicted_none (goal.E-step g) c.loop.evicted c.keys_of_next.new.client.pass,
  refl,
  counted_none (IsOfEnded c.args.time) c.loop.self.counts c.keys_of_next.new.client.pass,
  counted_none (IsOfEnded c.args.time) (only_evictions c.loop.gone) c.keys_of_next.new.client.pass,
)

pub loop-key-preserved : goal.loop-key-preserved
loop-key-preserved g c = (
  tt,
  tt,
  c.pass.ensures.callable,
  c.pass.ensures.map ∙ c.loop-key.invariant.3,
  evicted_more (goal.E-step g) c.loop.evicted c.loop-key.evicted c.pass.new.evicted c.keys_of_next.new.client.pass
      c.loop-key.self.client.pass c.pass.new.self.client.pass c.loop-key.invariant.4 c.pass.ensures.evicted,
  c.pass.ensures.most ∙ c.loop-key.invariant.5,
  counted_more (IsOfEnded c.args.time) c.loop.self.counts c.loop-key.self.counts c.pass.new.self.counts
      c.keys_of_next.new.client.pass c.loop-key.self.client.pass c.pass.new.self.client.pass c.loop-key.invariant.6
      (c.pass.ensures.live refl),
  counted_told (IsOfEnded c.args.time) (only_evictions c.loop.gone) (only_evictions c.loop-key.gone)
      (only_evictions c.more_if-gone.result) c.in_ok-is_gone.is_gone c.keys_of_next.new.client.pass
      c.loop-key.self.client.pass c.pass.new.self.client.pass c.loop-key.invariant.7 c.more_if-gone.ensures
      (c.in_ok-is_gone.ensures.told refl c.loop-key.gone),
)

pub loop-preserved : goal.loop-preserved
loop-preserved g c = record {
  can = c.loop-key.invariant.2;
  map = c.loop-key.invariant.3 ∙ c.keys_of_next.ensures.map ∙ c.loop.invariant.map;
  most = c.loop-key.invariant.5 ∙ c.loop.invariant.most;
  evicted =
      evicted_then (goal.E-step g) c.args.evicted.now c.loop.evicted c.loop-key.evicted c.args.self.now.client.pass
      c.loop.self.client.pass c.keys_of_next.new.client.pass c.loop-key.self.client.pass c.loop.invariant.evicted
      c.keys_of_next.ensures.seen c.loop-key.invariant.4;
  counted =
      counted_then (IsOfEnded c.args.time) c.args.self.now.counts c.loop.self.counts c.loop.self.counts
      c.loop-key.self.counts c.args.self.now.client.pass c.loop.self.client.pass c.keys_of_next.new.client.pass
      c.loop-key.self.client.pass c.loop.invariant.counted refl c.keys_of_next.ensures.seen c.loop-key.invariant.6;
  count =
      counted_then (IsOfEnded c.args.time) (only_evictions 0) (only_evictions c.loop.gone) (only_evictions c.loop.gone)
      (only_evictions c.loop-key.gone) c.args.self.now.client.pass c.loop.self.client.pass
      c.keys_of_next.new.client.pass c.loop-key.self.client.pass c.loop.invariant.count refl c.keys_of_next.ensures.seen
      c.loop-key.invariant.7;
}

pub returns-in_err-alloc-clause-full : goal.returns-in_err-alloc-clause-full
returns-in_err-alloc-clause-full g c = λ is. absurd
    (short_is_not_full c.from_residual.result NoMemory c.from_residual.ensures.1 refl is)

pub returns-in_err-keys-clause-full : goal.returns-in_err-keys-clause-full
returns-in_err-keys-clause-full g c = λ is. absurd
    (short_is_not_full c.from_residual-in_err-keys.result _ c.from_residual-in_err-keys.ensures.1
    c.in_err-keys.ensures.faults is)

pub returns-in_err-is_gone-clause-full : goal.returns-in_err-is_gone-clause-full
returns-in_err-is_gone-clause-full g c = λ is.
    c.in_err-is_gone.ensures.full
    (fails_by c.from_residual-in_err-is_gone.result _ PassFull c.from_residual-in_err-is_gone.ensures.1 is)
