use Rattle.std.proofs.Common.{◌≡◌, ◌<◌, ◌∙◌, List, get_or, ap, sym, subst, length, All, arith}
use Rattle.std.proofs.lemmas.List.{take_all}
use Rattle.bin_history.specs.Calls.{after}
use Rattle.bin_history.specs.Records.{RecordView}
use Rattle.count_ledger.specs.Fronts.{BeginsWith, HasSeen}
use Rattle.count_ledger.specs.Views.{MomentView, PassView}
use Rattle.count_ledger.proofs.Fronts.{BeginsWith-more}
use Rattle.count_ledger.proofs.Learning.{next_low, next_is, rest_more, zipped_more, all_more}
use Rattle.live_maps.proofs.Learned.{own-now}
use Rattle.live_maps.proofs.moments.hear_each.Goals as goal

pub learn-requires-clause-pass : goal.learn-requires-clause-pass
learn-requires-clause-pass g c =
    let olds = c.args.passes.now in
    let now = c.loop-i.passes in
    let i = c.loop-i.i in
    let d = c.index-passes-i.result in
    let low : i < length now = (let l = c.loop-i-test.true in let e = c.loop-i.auto.passes in omega arith) in
    let rest = c.loop-i.invariant.rest in
    ap (λ (p : PassView _ _ _). p.ledger) (next_is olds now i d low rest)
    ∙ c.requires.own i d (next_low olds now i d low rest)

pub moment-requires : goal.moment-requires
moment-requires g c =
    let olds = c.args.passes.now in
    let now = c.loop-i.passes in
    let i = c.loop-i.i in
    let d = c.index-passes-i.result in
    let low : i < length now = (let l = c.loop-i-test.true in let e = c.loop-i.auto.passes in omega arith) in
    let rest = c.loop-i.invariant.rest in
    ap (λ (p : PassView _ _ _). p.ledger) (c.learn.ensures.seen.pass)
    ∙ ap (λ (p : PassView _ _ _). p.ledger) (next_is olds now i d low rest)
    ∙ c.requires.own i d (next_low olds now i d low rest)

pub loop-i-preserved : goal.loop-i-preserved
loop-i-preserved g c =
    let olds = c.args.passes.now in
    let now = c.loop-i.passes in
    let i = c.loop-i.i in
    let d = c.index-passes-i.result in
    let q = c.moment.new.pass in
    let low : i < length now = (let l = c.loop-i-test.true in let e = c.loop-i.auto.passes in omega arith) in
    let inv = c.loop-i.invariant in
    let was = c.loop-i.moment.seen in
    let next : c.moment.result.seen ≡ c.learn.new.pass.seen =
    ap (λ (m : MomentView _ _ _). m.seen) c.moment.ensures.moment in
    let Seen : PassView _ _ _ → PassView _ _ _ → Type 0 =
    HasSeen g.K.PartialEq.eq (after g.V.PartialEq.eq g.F.Remap.remapped g.F.Remap.merged) c.args.map.now.ledger in
    let more : BeginsWith c.moment.result.seen was =
    subst (λ (l : List (RecordView _ _ _)). BeginsWith l was) (sym next) c.learn.ensures.learned in
    let own : BeginsWith c.moment.result.seen (get_or now i d).seen =
    subst (λ (l : List (RecordView _ _ _)). BeginsWith l (get_or now i d).seen) (sym next) c.learn.ensures.seen.front.seen in
    record {
      moment = ap (λ (m : MomentView _ _ _). m.ledger) c.moment.ensures.moment;
      more = BeginsWith-more c.moment.result.seen was c.args.moment.now.seen more inv.more;
      heard = all_more olds now i d q low inv.rest was c.moment.result.seen more own inv.heard;
      seen = zipped_more olds now i d low inv.rest Seen q inv.seen
          (subst (Seen _) (sym c.moment.ensures.same)
          (subst (λ (p : PassView _ _ _). Seen p c.learn.new.pass)
          (next_is olds now i d low inv.rest) c.learn.ensures.seen));
      rest = rest_more olds now i d low inv.rest q;
    }

pub returns-clause-heard : goal.returns-clause-heard
returns-clause-heard g c =
    let olds = c.args.passes.now in
    let i = c.loop-i.i in
    let all = (let l = c.loop-i-test.false in take_all i olds l) in
    subst (All (λ (p : PassView _ _ _). BeginsWith c.loop-i.moment.seen p.seen)) all c.loop-i.invariant.heard

pub returns-clause-own : goal.returns-clause-own
returns-clause-own g c =
    let l = c.loop-i-test.false in
    let e = c.loop-i.auto.passes in
    own-now g.K.PartialEq.eq (after g.V.PartialEq.eq g.F.Remap.remapped g.F.Remap.merged) c.args.map.now.ledger
    c.args.passes.now c.loop-i.passes c.loop-i.i (omega (arith, l, e)) (omega (arith, l, e)) c.loop-i.invariant.seen
    c.args.map.now.ledger.id c.requires.own
