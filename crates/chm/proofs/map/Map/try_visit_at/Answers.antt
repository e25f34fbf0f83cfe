use Rattle.std.proofs.Common.{◌≡◌, ◌++◌, Option, None}
use Rattle.std.specs.Prelude.{IfSome, IfNone, IsSomeAnd}
use Rattle.bin_history.specs.Calls.{after}
use Rattle.count_ledger.specs.Fronts.{HasSeen}
use Rattle.part_walks.specs.Parts.{IsFirstOf}
use Rattle.chm.specs.Cursors.{HasCome, list_of}
use Rattle.chm.specs.Numbered.{hash_at}
use Rattle.chm.specs.Visits.{VisitView, IsVisit}
use Rattle.chm.proofs.Stepping.{come-at, goes-on, ok_is, shown-at, shown-some}
use Rattle.chm.proofs.map.Map.try_visit_at.Goals as goal

pub returns-in-Ok-clause-visit : goal.returns-in-Ok-clause-visit
returns-in-Ok-clause-visit g c =
    let next = c.cursor_at-cursor.result.next in
    let Seen : VisitView g.row.K.Denot g.row.V.Denot → Type 0 = λ _. HasSeen g.K.PartialEq.eq
    (after g.V.PartialEq.eq g.F.Remap.remapped g.F.Remap.merged) c.args.self.now.ledger c.args.pass.now
    c.try_visit_next.new.pass in
    let Shown : VisitView g.row.K.Denot g.row.V.Denot → Type 0 = λ v. IsVisit g.K.PartialEq.eq g.K.HashKey.code
    c.args.self.now.ledger c.try_visit_next.new.pass.seen v in
    shown-at Seen Shown (hash_at c.args.number) next c.in-Ok.visit c.cursor_at-cursor.ensures.next
    (ok_is (λ (o : Option (VisitView g.row.K.Denot g.row.V.Denot)). IfSome o (λ v. IsSomeAnd next (λ k. IsFirstOf k v.class)))
    c.in_ok-tried.tried c.in-Ok.visit c.in-Ok.is c.in_ok-tried.ensures.first)
    (ok_is (λ (o : Option (VisitView g.row.K.Denot g.row.V.Denot)). IfSome o (λ v. Seen v × Shown v)) c.in_ok-tried.tried
    c.in-Ok.visit c.in-Ok.is c.in_ok-tried.ensures.visit)

pub returns-in-Ok-clause-come : goal.returns-in-Ok-clause-come
returns-in-Ok-clause-come g c shown come =
    come-at c.number.result c.try_visit_next.new.cursor shown c.in-Ok.visit c.number.ensures
    (ok_is (λ (o : Option (VisitView g.row.K.Denot g.row.V.Denot)). HasCome c.try_visit_next.new.cursor (shown ++ list_of o))
    c.in_ok-tried.tried c.in-Ok.visit c.in-Ok.is
    (c.in_ok-tried.ensures.come shown (c.cursor_at-cursor.ensures.come shown come)))

pub returns-in-Ok-clause-on : goal.returns-in-Ok-clause-on
returns-in-Ok-clause-on g c =
    let (e, le, is, of) = c.cursor_at-cursor.ensures.table in
    goes-on c.args.number c.number.result e c.cursor_at-cursor.result.n c.cursor_at-cursor.result.next
    c.try_visit_next.new.cursor c.in-Ok.visit le is of c.cursor_at-cursor.ensures.next c.number.ensures
    (λ shown come. ok_is
    (λ (o : Option (VisitView g.row.K.Denot g.row.V.Denot)). HasCome c.try_visit_next.new.cursor (shown ++ list_of o))
    c.in_ok-tried.tried c.in-Ok.visit c.in-Ok.is (c.in_ok-tried.ensures.come shown come))

pub returns-in-Ok-clause-end : goal.returns-in-Ok-clause-end
returns-in-Ok-clause-end g c =
    let next = c.cursor_at-cursor.result.next in
    shown-some (c.try_visit_next.new.pass ≡ c.args.pass.now) _ _ next c.in-Ok.visit c.cursor_at-cursor.ensures.next
    (ok_is (λ (o : Option (VisitView g.row.K.Denot g.row.V.Denot)). IfNone o ((next ≡ None)
    × (c.try_visit_next.new.pass ≡ c.args.pass.now))) c.in_ok-tried.tried c.in-Ok.visit c.in-Ok.is c.in_ok-tried.ensures.end)
