use Rattle.std.proofs.Common.{◌≡◌, ◌<◌, ◌∙◌, ap, sym, subst, length, All, arith}
use Rattle.std.proofs.lemmas.List.{take_all}
use Rattle.bin_history.specs.Calls.{after}
use Rattle.count_ledger.specs.Fronts.{BeginsWith, HasSeen}
use Rattle.count_ledger.specs.Views.{MomentView, PassView}
use Rattle.count_ledger.proofs.Learning.{next_low, next_is, rest_more, zipped_more, learned_more}
use Rattle.live_maps.proofs.Learned.{own-now}
use Rattle.live_maps.proofs.moments.tell_each.Goals as goal

pub learn-requires-clause-pass : goal.learn-requires-clause-pass
learn-requires-clause-pass g c =
    let olds = c.args.passes.now in
    let now = c.loop-i.passes in
    let i = c.loop-i.i in
    let d = c.index-passes-i.result in
    let low : i < length now = (let l = c.loop-i-test.true in let e = c.loop-i.auto.passes in omega arith) in
    let rest = c.loop-i.invariant.rest in
    ap (λ (p : PassView _ _ _). p.ledger) (next_is olds now i d low rest)
    ∙ c.requires.own i d (next_low olds now i d low rest)

pub loop-i-preserved : goal.loop-i-preserved
loop-i-preserved g c =
    let olds = c.args.passes.now in
    let now = c.loop-i.passes in
    let i = c.loop-i.i in
    let d = c.index-passes-i.result in
    let q = c.learn.new.pass in
    let low : i < length now = (let l = c.loop-i-test.true in let e = c.loop-i.auto.passes in omega arith) in
    let inv = c.loop-i.invariant in
    let Seen : PassView _ _ _ → PassView _ _ _ → Type 0 =
    HasSeen g.K.PartialEq.eq (after g.V.PartialEq.eq g.F.Remap.remapped g.F.Remap.merged) c.args.map.now.ledger in
    record {
      moment = c.learn.ensures.same ∙ inv.moment;
      told = learned_more olds now i d q low inv.rest c.args.moment.now.seen
          (subst (λ (m : MomentView _ _ _). BeginsWith q.seen m.seen) inv.moment c.learn.ensures.learned) inv.told;
      seen = zipped_more olds now i d low inv.rest Seen q inv.seen
          (subst (λ (p : PassView _ _ _). Seen p q) (next_is olds now i d low inv.rest)
          c.learn.ensures.seen);
      rest = rest_more olds now i d low inv.rest q;
    }

pub returns-clause-told : goal.returns-clause-told
returns-clause-told g c =
    let now = c.loop-i.passes in
    let i = c.loop-i.i in
    let all = (let l = c.loop-i-test.false in let e = c.loop-i.auto.passes in take_all i now (omega arith)) in
    subst (All (λ (p : PassView _ _ _). BeginsWith p.seen c.args.moment.now.seen)) all c.loop-i.invariant.told

pub returns-clause-own : goal.returns-clause-own
returns-clause-own g c =
    let l = c.loop-i-test.false in
    let e = c.loop-i.auto.passes in
    own-now g.K.PartialEq.eq (after g.V.PartialEq.eq g.F.Remap.remapped g.F.Remap.merged) c.args.map.now.ledger
    c.args.passes.now c.loop-i.passes c.loop-i.i (omega (arith, l, e)) (omega (arith, l, e)) c.loop-i.invariant.seen
    c.args.map.now.ledger.id c.requires.own
