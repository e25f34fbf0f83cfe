use Rattle.std.proofs.Common.{◌≡◌, ◌∙◌, List, get_or, set, ap, subst, All}
use Rattle.std.proofs.lemmas.List.{set-get_or}
use Rattle.std.specs.List.{AllZip}
use Rattle.bin_history.specs.Calls.{after}
use Rattle.count_ledger.specs.Fronts.{BeginsWith, HasSeen}
use Rattle.count_ledger.specs.Views.{PassView}
use Rattle.count_ledger.proofs.Learning.{seen_then, ledgers_seen}
use Rattle.count_ledger.proofs.ledger.Ledger.learn_all.Goals as goal

-- the passes are as they were after the first one's moment was taken
same_again : {X : Type 0} (xs : List X) (x y : X) → y ≡ get_or xs 0 x → set xs 0 y ≡ xs
same_again xs x y e = ap (set xs 0) e ∙ set-get_or xs 0 x

pub learn_each-requires-clause-own : goal.learn_each-requires-clause-own
learn_each-requires-clause-own g c =
    let same = same_again c.args.passes.now c.index-passes-0.result c.moment-moment.new.pass c.moment-moment.ensures.same in
    let mid = c.moment_of_all-moment.new.passes in
    let after_calls = after g.V.PartialEq.eq g.F.Remap.remapped g.F.Remap.merged in
    ledgers_seen g.K.PartialEq.eq after_calls c.args.self.now c.args.self.now.id c.args.passes.now mid
    (subst (λ (l : List (PassView _ _ _)). AllZip (HasSeen g.K.PartialEq.eq after_calls c.args.self.now) l mid) same
    c.moment_of_all-moment.ensures.seen) c.requires

pub returns-clause-learned : goal.returns-clause-learned
returns-clause-learned g c =
    let same = same_again c.args.passes.now c.index-passes-0.result c.moment-moment.new.pass c.moment-moment.ensures.same in
    let moment = c.moment_of_all-moment.result.seen in (
      moment,
      subst (All (λ (p : PassView _ _ _). BeginsWith moment p.seen)) same c.moment_of_all-moment.ensures.all,
      c.learn_each.ensures.learned,
    )

pub returns-clause-seen : goal.returns-clause-seen
returns-clause-seen g c =
    let same = same_again c.args.passes.now c.index-passes-0.result c.moment-moment.new.pass c.moment-moment.ensures.same in
    let mid = c.moment_of_all-moment.new.passes in
    let after_calls = after g.V.PartialEq.eq g.F.Remap.remapped g.F.Remap.merged in
    seen_then g.K.PartialEq.eq after_calls c.args.self.now c.args.passes.now mid c.learn_each.new.passes
    (subst (λ (l : List (PassView _ _ _)). AllZip (HasSeen g.K.PartialEq.eq after_calls c.args.self.now) l mid) same
    c.moment_of_all-moment.ensures.seen) c.learn_each.ensures.seen
