use Rattle.std.proofs.Common.{◌≡◌, true, false, Option, List, ◌∷◌, ◌++◌, [], rules, refl, sym, subst, ap, ◌∙◌}
use Rattle.std.specs.List.{FoldsTo}
use Rattle.bin_history.specs.Calls.{after}
use Rattle.bin_history.proofs.Keys.{key_tells}
use Rattle.count_ledger.specs.Fronts.{HasSeenMore}
use Rattle.count_ledger.specs.Views.{PassView}
use Rattle.chm.specs.Cursors.{HasComeTo, IsUsedAt}
use Rattle.chm.specs.Visits.{classes_of_visits, shown_by, AreVisited}
use Rattle.chm.proofs.Visiting.{AreVisited-push, AreVisited-seen}
use Rattle.clients.proofs.Turns.{FoldsTo-append, shown_by-push}
use Rattle.clients.proofs.Whole.{whole-walk}
use Rattle.clients.proofs.folding.show_all.Goals as goal

pub loop-init : goal.loop-init
loop-init g c = record {
  can = c.requires.callable;
  shown = ([], c.cursor-cursor.ensures.begun [] refl, refl, refl);
  ledger = c.requires.pass;
}

pub loop-preserved : goal.loop-preserved
loop-preserved g c =
    let (visits, come, visited, folds) = c.loop.invariant.shown in
    let yes : c.show_next.result ≡ true = search rules in
    let (visit, seen, shows, uses, on) = c.show_next.ensures.shown yes in
    record {
      can = c.show_next.ensures.callable;
      shown = (
        visits ++ visit ∷ [],
        on visits come,
        AreVisited-push g.K.PartialEq.eq (after g.V.PartialEq.eq g.F.Remap.remapped g.F.Remap.merged)
            c.args.map.now.ledger (key_tells g.met.K.Eq.laws g.met.K.HashKey.equal_is_same) g.K.HashKey.code
            c.args.pass.now c.loop.pass c.show_next.new.pass visits visit visited seen shows,
        subst (λ (es : List _). FoldsTo (IsUsedAt (goal.G-step g)) c.args.f.now es c.show_next.new.f)
            (sym (shown_by-push visits visit))
            (FoldsTo-append (IsUsedAt (goal.G-step g)) (shown_by visits) visit.entries _ _ _ folds uses),
      );
      ledger = ap (λ (p : PassView _ _ _). p.ledger) seen.pass ∙ c.loop.invariant.ledger;
    }

pub returns-then-not-show_next-clause-shown : goal.returns-then-not-show_next-clause-shown
returns-then-not-show_next-clause-shown g c =
    let (visits, come, visited, folds) = c.loop.invariant.shown in
    let no : c.show_next.result ≡ false = search rules in
    let (at_end, same, as_was, _) = c.show_next.ensures.end no in
    let its_after = after g.V.PartialEq.eq g.F.Remap.remapped g.F.Remap.merged in (
      visits,
      whole-walk g.K.PartialEq.eq its_after (key_tells g.met.K.Eq.laws g.met.K.HashKey.equal_is_same) g.K.HashKey.code
          c.loop.cursor.n c.args.map.now c.args.pass.now c.show_next.new.pass visits
          (subst
          (λ (p : PassView _ _ _). AreVisited g.K.PartialEq.eq g.K.HashKey.code its_after c.args.map.now.ledger
          c.args.pass.now visits p) (sym same) visited)
          (subst (λ (next : Option _). HasComeTo c.loop.cursor.n next (classes_of_visits visits)) at_end come),
      subst (λ (f : _). FoldsTo (IsUsedAt (goal.G-step g)) c.args.f.now (shown_by visits) f) (sym as_was) folds,
    )

pub returns-then-not-show_next-clause-seen : goal.returns-then-not-show_next-clause-seen
returns-then-not-show_next-clause-seen g c =
    let (visits, come, visited, folds) = c.loop.invariant.shown in
    let no : c.show_next.result ≡ false = search rules in
    let (at_end, same, _, _) = c.show_next.ensures.end no in
    subst (λ (p : PassView _ _ _). HasSeenMore c.args.pass.now p) (sym same)
    (AreVisited-seen g.K.PartialEq.eq (after g.V.PartialEq.eq g.F.Remap.remapped g.F.Remap.merged)
    c.args.map.now.ledger (key_tells g.met.K.Eq.laws g.met.K.HashKey.equal_is_same) g.K.HashKey.code
    c.args.pass.now c.loop.pass visits visited)
