use Rattle.std.proofs.Common.{false, subst}
use Rattle.bin_history.specs.declared.call.Call.TheVariants.{Put}
use Rattle.bin_history.specs.declared.call.Reply.TheVariants.{Value}
use Rattle.caches.proofs.cache_client.CacheClient.put.Goals as goal
use Rattle.caches.specs.Caches.{IsAny, IsCalledOn}
use Rattle.caches.proofs.Counting.{counted_more, counted_put}
use Rattle.caches.proofs.Full.{fails_as, fails_by, made_all_still, ok_fails}
use Rattle.chm.specs.declared.fault.Fault.TheVariants.{PassFull}
use Rattle.caches.specs.declared.entry.CacheEntry.{CacheEntry}
use Rattle.chm.specs.Views.{MapView}

pub returns-clause-put : goal.returns-clause-put
returns-clause-put g c =
    let entry : CacheEntry g.row.V.Denot = record { value = c.args.value; deadline = c.args.deadline; used = false } in (
      c.make_room.new.self.client.pass,
      c.put.new.self.pass,
      c.make_room.new.evicted,
      c.in_ok-before.before,
      c.make_room.ensures.evicted,
      subst
          (λ (m : MapView _ _). IsCalledOn g.K.PartialEq.eq g.V.PartialEq.eq m.ledger (Put c.args.key entry)
          c.make_room.new.self.client.pass c.put.new.self.pass (Value c.in_ok-before.before))
          c.make_room.ensures.map c.in_ok-before.ensures.answered.called,
      c.keep_bound.ensures.evicted,
      c.live_value.ensures,
    )

pub returns-clause-counted : goal.returns-clause-counted
returns-clause-counted g c =
    let entry : CacheEntry g.row.V.Denot = record { value = c.args.value; deadline = c.args.deadline; used = false } in
    counted_more IsAny c.args.self.now.counts c.make_room.new.self.counts c.keep_bound.new.self.counts
    c.args.self.now.client.pass c.make_room.new.self.client.pass c.keep_bound.new.self.client.pass
    c.make_room.ensures.counted
    (counted_more IsAny c.make_room.new.self.counts c.make_room.new.self.counts c.keep_bound.new.self.counts
    c.make_room.new.self.client.pass c.put.new.self.pass c.keep_bound.new.self.client.pass
    (counted_put IsAny g.K.PartialEq.eq g.V.PartialEq.eq c.make_room.new.self.client.map.ledger c.args.key
    c.make_room.new.self.client.pass c.put.new.self.pass c.make_room.new.self.counts c.in_ok-before.before entry
    c.in_ok-before.ensures.answered.called (λ r. tt))
    c.keep_bound.ensures.counted)

pub returns-in_err-before-clause-full : goal.returns-in_err-before-clause-full
returns-in_err-before-clause-full g c = λ is.
    made_all_still c.make_room.new.self.client.map c.put.new.self.map c.make_room.new.self.client.pass c.put.new.self.pass
    c.put.ensures.map c.in_err-before.ensures.answered.refused
    (c.in_err-before.ensures.answered.full.0
    (fails_by c.from_residual-in_err-before.result _ PassFull c.from_residual-in_err-before.ensures.1 is))

pub returns-in_err-before-clause-stops : goal.returns-in_err-before-clause-stops
returns-in_err-before-clause-stops g c = λ all. absurd (ok_fails _ PassFull (c.in_ok-make_room.ensures.stops all).0)

pub returns-clause-stops : goal.returns-clause-stops
returns-clause-stops g c = λ all. absurd (ok_fails _ PassFull (c.in_ok-make_room.ensures.stops all).0)

pub returns-in_err-make_room-clause-full : goal.returns-in_err-make_room-clause-full
returns-in_err-make_room-clause-full g c = λ is.
    c.in_err-make_room.ensures.full (fails_by c.from_residual.result _ PassFull c.from_residual.ensures.1 is)

pub returns-in_err-make_room-clause-stops : goal.returns-in_err-make_room-clause-stops
returns-in_err-make_room-clause-stops g c = λ all.
    let stopped = c.in_err-make_room.ensures.stops all in
    (fails_as c.from_residual.result _ PassFull c.from_residual.ensures.1 stopped.0, stopped.1, stopped.2)
