use Rattle.std.proofs.Common.{◌≡◌, ◌<◌, ◌∙◌, List, get_or, ap, sym, subst, length, All, arith}
use Rattle.std.proofs.lemmas.List.{take_all}
use Rattle.bin_history.specs.Calls.{after}
use Rattle.bin_history.specs.Records.{RecordView}
use Rattle.count_ledger.specs.Fronts.{BeginsWith, HasSeen}
use Rattle.count_ledger.specs.Views.{MomentView, PassView}
use Rattle.count_ledger.proofs.Fronts.{BeginsWith-more}
use Rattle.count_ledger.proofs.Learning.{next_low, next_is, rest_more, zipped_more, all_more}
use Rattle.count_ledger.proofs.ledger.Ledger.moment_of_all.Goals as goal

pub learn-requires-clause-pass : goal.learn-requires-clause-pass
learn-requires-clause-pass g c =
    let olds = c.args.passes.now in
    let now = c.loop-i.passes in
    let i = c.loop-i.i in
    let d = c.index-passes-i.result in
    let low : i < length now = (let l = c.loop-i-test.true in let e = c.loop-i.auto.passes in omega arith) in
    let rest = c.loop-i.invariant.rest in
    ap (λ (p : PassView _ _ _). p.ledger) (next_is olds now i d low rest)
    ∙ c.requires.own i d (next_low olds now i d low rest)

pub moment-moment-requires : goal.moment-moment-requires
moment-moment-requires g c =
    let olds = c.args.passes.now in
    let now = c.loop-i.passes in
    let i = c.loop-i.i in
    let d = c.index-passes-i.result in
    let low : i < length now = (let l = c.loop-i-test.true in let e = c.loop-i.auto.passes in omega arith) in
    let rest = c.loop-i.invariant.rest in
    ap (λ (p : PassView _ _ _). p.ledger) (c.learn.ensures.seen.pass)
    ∙ ap (λ (p : PassView _ _ _). p.ledger) (next_is olds now i d low rest)
    ∙ c.requires.own i d (next_low olds now i d low rest)

pub loop-i-preserved : goal.loop-i-preserved
loop-i-preserved g c =
    let olds = c.args.passes.now in
    let now = c.loop-i.passes in
    let i = c.loop-i.i in
    let d = c.index-passes-i.result in
    let q = c.moment-moment.new.pass in
    let low : i < length now = (let l = c.loop-i-test.true in let e = c.loop-i.auto.passes in omega arith) in
    let inv = c.loop-i.invariant in
    let was = c.loop-i.moment.seen in
    let next : c.moment-moment.result.seen ≡ c.learn.new.pass.seen =
    ap (λ (m : MomentView _ _ _). m.seen) c.moment-moment.ensures.moment in
    let Seen : PassView _ _ _ → PassView _ _ _ → Type 0 =
    HasSeen g.K.PartialEq.eq (after g.V.PartialEq.eq g.F.Remap.remapped g.F.Remap.merged) c.args.self.now in
    let more : BeginsWith c.moment-moment.result.seen was =
    subst (λ (l : List (RecordView _ _ _)). BeginsWith l was) (sym next) c.learn.ensures.learned in
    let own : BeginsWith c.moment-moment.result.seen (get_or now i d).seen =
    subst (λ (l : List (RecordView _ _ _)). BeginsWith l (get_or now i d).seen) (sym next) c.learn.ensures.seen.front.seen in
    record {
      moment = ap (λ (m : MomentView _ _ _). m.ledger) c.moment-moment.ensures.moment;
      more = BeginsWith-more c.moment-moment.result.seen was c.args.moment.seen more inv.more;
      all = all_more olds now i d q low inv.rest was c.moment-moment.result.seen more own inv.all;
      seen = zipped_more olds now i d low inv.rest Seen q inv.seen
          (subst (Seen _) (sym c.moment-moment.ensures.same)
          (subst (λ (p : PassView _ _ _). Seen p c.learn.new.pass)
          (next_is olds now i d low inv.rest) c.learn.ensures.seen));
      rest = rest_more olds now i d low inv.rest q;
    }

pub returns-clause-all : goal.returns-clause-all
returns-clause-all g c =
    let olds = c.args.passes.now in
    let i = c.loop-i.i in
    let all = (let l = c.loop-i-test.false in take_all i olds l) in
    subst (All (λ (p : PassView _ _ _). BeginsWith c.loop-i.moment.seen p.seen)) all c.loop-i.invariant.all
