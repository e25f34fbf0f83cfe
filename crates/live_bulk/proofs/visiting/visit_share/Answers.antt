use Rattle.std.proofs.Common.{[], inl, inr, refl, sym, ◌∙◌}
use Rattle.bin_history.specs.Calls.{after}
use Rattle.bin_history.proofs.Keys.{key_tells}
use Rattle.chm.specs.Visits.{classes_of_visits, shown_by}
use Rattle.live_bulk.proofs.ShareWalks.{HasShown-more, share-over}
use Rattle.live_bulk.proofs.visiting.visit_share.Goals as goal

pub loop-init : goal.loop-init
loop-init g c = record {
  visits = [];
  visited = refl;
  collected = c.start-part.ensures;
  walked = c.requires.begun;
  n = refl;
  lo = refl;
  hi = refl;
  own = c.requires.pass;
}

pub show_part-part-requires-clause-pass : goal.show_part-part-requires-clause-pass
show_part-part-requires-clause-pass g c = c.loop.invariant.own

pub show_part-part-requires-clause-more : goal.show_part-part-requires-clause-more
show_part-part-requires-clause-more g c = sym c.is_at_end.ensures.value ∙ c.if-is_at_end.false

pub show_part-part-requires-clause-part : goal.show_part-part-requires-clause-part
show_part-part-requires-clause-part g c =
    let shown = c.loop.invariant in
    (shown_by shown.visits, c.look_again-part.ensures (shown_by shown.visits) shown.collected)

pub loop-preserved : goal.loop-preserved
loop-preserved g c =
    let shown = c.loop.invariant in
    let (v, seen, visit, takes, goes) = c.show_part-part.ensures.shown in
    HasShown-more g.K.PartialEq.eq g.K.HashKey.code (after g.V.PartialEq.eq g.F.Remap.remapped g.F.Remap.merged)
    c.args.map.now.ledger (g.S.Taker.reached c.args.stepper.now)
    (key_tells g.met.K.Eq.laws g.met.K.HashKey.equal_is_same) c.args.pass.now c.args.share c.loop.pass
    c.show_part-part.new.pass c.loop.walk c.show_part-part.new.walk c.look_again-part.result c.show_part-part.result v
    (record {
      visits = shown.visits;
      visited = shown.visited;
      collected = c.look_again-part.ensures (shown_by shown.visits) shown.collected;
      walked = shown.walked;
      n = shown.n;
      lo = shown.lo;
      hi = shown.hi;
      own = shown.own;
    })
    seen visit takes goes c.show_part-part.ensures.n c.show_part-part.ensures.lo c.show_part-part.ensures.hi

pub returns-then-is_at_end : goal.returns-then-is_at_end
returns-then-is_at_end g c =
    let shown = c.loop.invariant in (
      shown.visits,
      shown.visited,
      c.look_again-part.ensures (shown_by shown.visits) shown.collected,
      inr (share-over g.K.PartialEq.eq g.K.HashKey.code
          (after g.V.PartialEq.eq g.F.Remap.remapped g.F.Remap.merged) c.args.map.now.ledger
          (g.S.Taker.reached c.args.stepper.now) c.args.pass.now c.args.share c.loop.pass c.loop.walk c.loop.part shown
          (c.is_at_end.ensures.end c.if-is_at_end.true (classes_of_visits shown.visits) shown.walked)),
    )

pub returns-then-is_settled : goal.returns-then-is_settled
returns-then-is_settled g c =
    let shown = c.loop.invariant in (
      shown.visits,
      shown.visited,
      c.look_again-part.ensures (shown_by shown.visits) shown.collected,
      inl (c.is_settled.ensures c.if-is_settled.true),
    )
