use Rattle.std.proofs.Common.{◌∙◌}
use Rattle.caches.specs.Caches.{IsAny}
use Rattle.caches.proofs.Counting.{counted_still, counted_then}
use Rattle.caches.proofs.Evicted.{evicted_then}
use Rattle.caches.proofs.Full.{fails_by, short_is_not_full}
use Rattle.chm.specs.declared.fault.Fault.TheVariants.{PassFull}
use Rattle.caches.proofs.cache_client.CacheClient.evict_to.Goals as goal

pub returns-in_err-pass_all-clause-evicted : goal.returns-in_err-pass_all-clause-evicted
returns-in_err-pass_all-clause-evicted g c =
    evicted_then (goal.E-step g) c.args.evicted.now c.loop.evicted c.pass_all.new.evicted c.args.self.now.client.pass
    c.loop.self.client.pass c.keys_at_hand.new.self.client.pass c.pass_all.new.self.client.pass
    c.loop.invariant.evicted c.keys_at_hand.ensures.seen c.pass_all.ensures.evicted

pub returns-in_err-keys-clause-counted : goal.returns-in_err-keys-clause-counted
returns-in_err-keys-clause-counted g c =
    counted_still IsAny c.args.self.now.counts c.loop.self.counts c.keys_at_hand.new.self.counts
    c.args.self.now.client.pass c.loop.self.client.pass c.keys_at_hand.new.self.client.pass c.loop.invariant.counted
    c.keys_at_hand.ensures.counts c.keys_at_hand.ensures.seen

pub returns-in_err-pass_all-clause-counted : goal.returns-in_err-pass_all-clause-counted
returns-in_err-pass_all-clause-counted g c =
    counted_then IsAny c.args.self.now.counts c.loop.self.counts c.keys_at_hand.new.self.counts
    c.pass_all.new.self.counts c.args.self.now.client.pass c.loop.self.client.pass c.keys_at_hand.new.self.client.pass
    c.pass_all.new.self.client.pass c.loop.invariant.counted c.keys_at_hand.ensures.counts c.keys_at_hand.ensures.seen
    c.pass_all.ensures.counted

pub loop-preserved : goal.loop-preserved
loop-preserved g c = record {
  can = c.pass_all.ensures.callable;
  map = c.pass_all.ensures.map ∙ c.keys_at_hand.ensures.map ∙ c.loop.invariant.map;
  most = c.pass_all.ensures.most ∙ c.keys_at_hand.ensures.most ∙ c.loop.invariant.most;
  evicted =
      evicted_then (goal.E-step g) c.args.evicted.now c.loop.evicted c.pass_all.new.evicted c.args.self.now.client.pass
      c.loop.self.client.pass c.keys_at_hand.new.self.client.pass c.pass_all.new.self.client.pass
      c.loop.invariant.evicted c.keys_at_hand.ensures.seen c.pass_all.ensures.evicted;
  counted =
      counted_then IsAny c.args.self.now.counts c.loop.self.counts c.keys_at_hand.new.self.counts
      c.pass_all.new.self.counts c.args.self.now.client.pass c.loop.self.client.pass c.keys_at_hand.new.self.client.pass
      c.pass_all.new.self.client.pass c.loop.invariant.counted c.keys_at_hand.ensures.counts c.keys_at_hand.ensures.seen
      c.pass_all.ensures.counted;
}

pub returns-in_err-keys-clause-full : goal.returns-in_err-keys-clause-full
returns-in_err-keys-clause-full g c = λ is. absurd
    (short_is_not_full c.from_residual.result _ c.from_residual.ensures.1 c.in_err-keys.ensures.faults is)

pub returns-in_err-pass_all-clause-full : goal.returns-in_err-pass_all-clause-full
returns-in_err-pass_all-clause-full g c = λ is.
    c.in_err-pass_all.ensures.full
    (fails_by c.from_residual-in_err-pass_all.result _ PassFull c.from_residual-in_err-pass_all.ensures.1 is)
