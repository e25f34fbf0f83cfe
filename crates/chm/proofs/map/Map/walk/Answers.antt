use Rattle.std.proofs.Common.{◌≡◌, ℕ, Option, List, ◌∷◌, ◌++◌, [], refl, sym, subst, ap, ◌∙◌}
use Rattle.hashkeys.specs.Classes.{ClassView}
use Rattle.bin_history.specs.Calls.{after}
use Rattle.bin_history.proofs.Keys.{key_tells}
use Rattle.count_ledger.specs.Views.{PassView}
use Rattle.bin_layout.specs.Walks.{IsWalk}
use Rattle.chm.specs.Cursors.{HasCome, HasComeTo}
use Rattle.chm.specs.Visits.{VisitView, classes_of_visits, AreVisited}
use Rattle.chm.proofs.Visiting.{AreVisited-push, AreVisited-seen, HasSeenMore-more, HasSeenMore-same}
use Rattle.chm.proofs.Visiting.{distinct_visits, visits_own}
use Rattle.chm.proofs.map.Map.walk.Goals as goal

pub loop-preserved : goal.loop-preserved
loop-preserved g c =
    let old = c.loop.visits.items in
    let visit = c.in-Some-shown.visit in
    let come = rw c.in-Some-shown.is at (c.in_ok-shown.ensures.come old c.loop.invariant.come) in
    let (seen, shows) = rw c.in-Some-shown.is at c.in_ok-shown.ensures.visit in
    let its_after = after g.V.PartialEq.eq g.F.Remap.remapped g.F.Remap.merged in
    record {
      come = subst (λ (vs : List (VisitView _ _)). HasCome c.visit_next.new.cursor vs) (sym c.in_ok-push.ensures.items)
          come;
      visited = subst
          (λ (vs : List (VisitView _ _)). AreVisited g.K.PartialEq.eq g.K.HashKey.code its_after c.args.self.now.ledger
          c.args.pass.now vs c.visit_next.new.pass)
          (sym c.in_ok-push.ensures.items)
          (AreVisited-push g.K.PartialEq.eq its_after c.args.self.now.ledger
          (key_tells g.met.K.Eq.laws g.met.K.HashKey.equal_is_same) g.K.HashKey.code c.args.pass.now c.loop.pass
          c.visit_next.new.pass old visit c.loop.invariant.visited seen shows);
      n = c.visit_next.ensures.n ∙ c.loop.invariant.n;
      ledger = ap (λ (p : PassView _ _ _). p.ledger) c.visit_next.ensures.seen.pass ∙ c.loop.invariant.ledger;
    }

pub returns-in_default-clause-visits : goal.returns-in_default-clause-visits
returns-in_default-clause-visits g c =
    let old = c.loop.visits.items in
    let (at_end, same) = rw c.in_default.is at c.in_ok-shown.ensures.end in
    let its_after = after g.V.PartialEq.eq g.F.Remap.remapped g.F.Remap.merged in
    record {
      visited = subst
          (λ (p : PassView _ _ _). AreVisited g.K.PartialEq.eq g.K.HashKey.code its_after c.args.self.now.ledger
          c.args.pass.now old p) (sym same) c.loop.invariant.visited;
      walk = subst (λ (n : ℕ). IsWalk n (classes_of_visits old)) c.loop.invariant.n
          (subst (λ (next : Option ClassView). HasComeTo c.loop.cursor.n next (classes_of_visits old)) at_end
          c.loop.invariant.come);
    }

pub returns-in_default-clause-own : goal.returns-in_default-clause-own
returns-in_default-clause-own g c one =
    let visits = returns-in_default-clause-visits g c in
    visits_own g.K.PartialEq.eq (after g.V.PartialEq.eq g.F.Remap.remapped g.F.Remap.merged) c.args.self.now.ledger
    (key_tells g.met.K.Eq.laws g.met.K.HashKey.equal_is_same) g.K.HashKey.code c.args.pass.now c.visit_next.new.pass
    c.loop.visits.items one visits.visited

pub returns-in_default-clause-distinct : goal.returns-in_default-clause-distinct
returns-in_default-clause-distinct g c =
    let visits = returns-in_default-clause-visits g c in
    distinct_visits g.K.PartialEq.eq (after g.V.PartialEq.eq g.F.Remap.remapped g.F.Remap.merged)
    c.args.self.now.ledger (key_tells g.met.K.Eq.laws g.met.K.HashKey.equal_is_same) g.K.HashKey.code
    c.args.self.now.n c.args.pass.now c.visit_next.new.pass c.loop.visits.items visits

pub returns-in_default-clause-seen : goal.returns-in_default-clause-seen
returns-in_default-clause-seen g c =
    HasSeenMore-more c.args.pass.now c.loop.pass c.visit_next.new.pass
    (AreVisited-seen g.K.PartialEq.eq (after g.V.PartialEq.eq g.F.Remap.remapped g.F.Remap.merged)
    c.args.self.now.ledger (key_tells g.met.K.Eq.laws g.met.K.HashKey.equal_is_same) g.K.HashKey.code
    c.args.pass.now c.loop.pass c.loop.visits.items c.loop.invariant.visited) c.visit_next.ensures.seen

pub returns-in_err-shown-clause-seen : goal.returns-in_err-shown-clause-seen
returns-in_err-shown-clause-seen g c =
    HasSeenMore-more c.args.pass.now c.loop.pass c.visit_next.new.pass
    (AreVisited-seen g.K.PartialEq.eq (after g.V.PartialEq.eq g.F.Remap.remapped g.F.Remap.merged)
    c.args.self.now.ledger (key_tells g.met.K.Eq.laws g.met.K.HashKey.equal_is_same) g.K.HashKey.code
    c.args.pass.now c.loop.pass c.loop.visits.items c.loop.invariant.visited) c.visit_next.ensures.seen

pub returns-in_err-push-clause-seen : goal.returns-in_err-push-clause-seen
returns-in_err-push-clause-seen g c =
    HasSeenMore-more c.args.pass.now c.loop.pass c.visit_next.new.pass
    (AreVisited-seen g.K.PartialEq.eq (after g.V.PartialEq.eq g.F.Remap.remapped g.F.Remap.merged)
    c.args.self.now.ledger (key_tells g.met.K.Eq.laws g.met.K.HashKey.equal_is_same) g.K.HashKey.code
    c.args.pass.now c.loop.pass c.loop.visits.items c.loop.invariant.visited) c.visit_next.ensures.seen

pub returns-in_err-clone-clause-seen : goal.returns-in_err-clone-clause-seen
returns-in_err-clone-clause-seen g c = HasSeenMore-same c.args.pass.now c.args.pass.now refl
