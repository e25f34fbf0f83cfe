use Rattle.std.proofs.Common.{◌≡◌, Option, ◌∷◌, ◌++◌, [], refl, sym, subst, ap, ◌∙◌}
use Rattle.hashkeys.specs.Classes.{ClassView}
use Rattle.bin_history.specs.Calls.{after}
use Rattle.bin_history.proofs.Keys.{key_tells}
use Rattle.count_ledger.specs.Views.{PassView}
use Rattle.chm.specs.Cursors.{HasComeTo}
use Rattle.chm.specs.Visits.{VisitView, classes_of_visits, shown_by, AreVisited}
use Rattle.chm.proofs.Visiting.{AreVisited-push, AreVisited-seen, HasSeenMore-more}
use Rattle.clients.proofs.Turns.{FoldsTo-append, shown_by-push}
use Rattle.clients.proofs.Whole.{whole-walk}
use Rattle.clients.proofs.folding.fold_all.Goals as goal

pub loop-init : goal.loop-init
loop-init g c = record {
  can = c.requires.callable;
  shown = ([], c.cursor-cursor.ensures.begun [] refl, refl, refl);
  ledger = c.requires.pass;
}

pub loop-preserved : goal.loop-preserved
loop-preserved g c =
    let (visits, come, visited, folds) = c.loop.invariant.shown in
    let visit = c.in-Some-shown.visit in
    let here = rw c.in-Some-shown.is at (c.in_ok-shown.ensures.come visits come) in
    let (seen, shows) = rw c.in-Some-shown.is at c.in_ok-shown.ensures.visit in
    let same = ap (λ (v : VisitView _ _). v.entries) c.visit.view_is in
    record {
      can = c.fold_entries-next.ensures.callable;
      shown = (
        visits ++ visit ∷ [],
        here,
        AreVisited-push g.K.PartialEq.eq (after g.V.PartialEq.eq g.F.Remap.remapped g.F.Remap.merged)
            c.args.map.now.ledger (key_tells g.met.K.Eq.laws g.met.K.HashKey.equal_is_same) g.K.HashKey.code
            c.args.pass.now c.loop.pass c.visit_next.new.pass visits visit visited seen shows,
        rw (shown_by-push visits visit)
            (FoldsTo-append _ (shown_by visits) visit.entries _ _ _ folds
            (rw same at c.fold_entries-next.ensures.folded)),
      );
      ledger = ap (λ (p : PassView _ _ _). p.ledger) c.visit_next.ensures.seen.pass ∙ c.loop.invariant.ledger;
    }

pub returns-in_default-clause-folded : goal.returns-in_default-clause-folded
returns-in_default-clause-folded g c =
    let (visits, come, visited, folds) = c.loop.invariant.shown in
    let (at_end, same) = rw c.in_default.is at c.in_ok-shown.ensures.end in
    let its_after = after g.V.PartialEq.eq g.F.Remap.remapped g.F.Remap.merged in (
      visits,
      whole-walk g.K.PartialEq.eq its_after (key_tells g.met.K.Eq.laws g.met.K.HashKey.equal_is_same) g.K.HashKey.code
          c.loop.cursor.n c.args.map.now c.args.pass.now c.visit_next.new.pass visits
          (subst
          (λ (p : PassView _ _ _). AreVisited g.K.PartialEq.eq g.K.HashKey.code its_after c.args.map.now.ledger
          c.args.pass.now visits p) (sym same) visited)
          (subst (λ (next : Option ClassView). HasComeTo c.loop.cursor.n next (classes_of_visits visits)) at_end come),
      folds,
    )

pub returns-in_default-clause-seen : goal.returns-in_default-clause-seen
returns-in_default-clause-seen g c =
    let (visits, come, visited, folds) = c.loop.invariant.shown in
    HasSeenMore-more c.args.pass.now c.loop.pass c.visit_next.new.pass
    (AreVisited-seen g.K.PartialEq.eq (after g.V.PartialEq.eq g.F.Remap.remapped g.F.Remap.merged)
    c.args.map.now.ledger (key_tells g.met.K.Eq.laws g.met.K.HashKey.equal_is_same) g.K.HashKey.code
    c.args.pass.now c.loop.pass visits visited) c.visit_next.ensures.seen

pub returns-in_err-shown-clause-seen : goal.returns-in_err-shown-clause-seen
returns-in_err-shown-clause-seen g c =
    let (visits, come, visited, folds) = c.loop.invariant.shown in
    HasSeenMore-more c.args.pass.now c.loop.pass c.visit_next.new.pass
    (AreVisited-seen g.K.PartialEq.eq (after g.V.PartialEq.eq g.F.Remap.remapped g.F.Remap.merged)
    c.args.map.now.ledger (key_tells g.met.K.Eq.laws g.met.K.HashKey.equal_is_same) g.K.HashKey.code
    c.args.pass.now c.loop.pass visits visited) c.visit_next.ensures.seen
