use Rattle.std.proofs.Common.{◌≡◌, ℕ, true, ◌∷◌, ◌++◌, [], List, Some, Ok, sym, ap, ◌∙◌}
use Rattle.hashkeys.specs.Classes.{covers}
use Rattle.bin_history.specs.Calls.{after}
use Rattle.count_ledger.specs.Fronts.{HasSeen}
use Rattle.chm.specs.Numbered.{GoesOnAt, HasComeAt, hash_at}
use Rattle.chm.specs.Visits.{VisitView, IsVisit}
use Rattle.facing_maps.proofs.Shown.{of-shown}
use Rattle.facing_maps.proofs.pairs.try_visit_of.Goals as goal

pub returns-in-Some-clause-seen : goal.returns-in-Some-clause-seen
returns-in-Some-clause-seen g c =
    let old = c.args.client.now in
    let full : c.in-Some-Ok.field-0 ≡ Ok (Some c.in-Some.visit, c.in-Some-Ok.next) =
    c.in-Some-Ok.field-0-is ∙ ap (λ s. Ok (s, c.in-Some-Ok.next)) c.in-Some.is in
    let (index, at, seen, visit) = of-shown (λ (v : VisitView g.row.K.Denot g.row.V.Denot) (n : ℕ).
    (v.class.index ≡ hash_at c.args.at) × (covers v.class (hash_at c.args.at) ≡ true)
    × HasSeen g.K.PartialEq.eq (after g.V.PartialEq.eq g.F.Remap.remapped g.F.Remap.merged) old.map.ledger old.pass c.try_visit_at.new.self.pass
    × IsVisit g.K.PartialEq.eq g.K.HashKey.code old.map.ledger c.try_visit_at.new.self.pass.seen v)
    c.in-Some-Ok.field-0 c.in-Some.visit c.in-Some-Ok.next full c.in-Some-Ok.ensures.visit in (
      c.in-Some.visit,
      sym (ap (λ (v : VisitView g.row.K.Denot g.row.V.Denot). v.entries) c.visit.view_is),
      index,
      at,
      seen,
      visit,
      λ shown come. of-shown (λ (v : VisitView g.row.K.Denot g.row.V.Denot) (n : ℕ). HasComeAt n (shown ++ v ∷ []))
          c.in-Some-Ok.field-0 c.in-Some.visit c.in-Some-Ok.next full (c.in-Some-Ok.ensures.come shown come),
      of-shown (λ (v : VisitView g.row.K.Denot g.row.V.Denot) (n : ℕ). GoesOnAt c.args.at v n)
          c.in-Some-Ok.field-0 c.in-Some.visit c.in-Some-Ok.next full c.in-Some-Ok.ensures.on,
    )
