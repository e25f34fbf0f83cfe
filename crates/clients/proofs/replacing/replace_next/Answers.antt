use Rattle.std.proofs.Common.{inl, inr, refl, ap}
use Rattle.std.proofs.lemmas.Bool.{false≢true}
use Rattle.chm.specs.Visits.{VisitView}
use Rattle.clients.proofs.Replacements.{next-of, next-with}
use Rattle.clients.proofs.replacing.replace_next.Goals as goal

pub returns-in-Ok-clause-next : goal.returns-in-Ok-clause-next
returns-in-Ok-clause-next g c =
    let visited = rw c.in-Ok-Some.field-0-is at c.in-Ok-Some.ensures.visit in
    let same = ap (λ (v : VisitView _ _). v.entries) c.visit.view_is in (
      c.in-Ok-Some.visit,
      c.visit_next.new.pass,
      visited,
      rw same at c.in-Ok.ensures.replaced,
      λ shown come. rw c.in-Ok-Some.field-0-is at (c.in-Ok-Some.ensures.come shown come),
    )

pub returns-in-Err-replace_among-clause-stopped : goal.returns-in-Err-replace_among-clause-stopped
returns-in-Err-replace_among-clause-stopped g c =
    let visited = rw c.in-Ok-Some.field-0-is at c.in-Ok-Some.ensures.visit in
    let same = ap (λ (v : VisitView _ _). v.entries) c.visit.view_is in
    let first = rw c.in-Ok-Some.field-0-is at c.in-Ok-Some.ensures.first in
    next-with c.args.cursor.now.next first
    (λ next at. inr (
      c.in-Ok-Some.visit,
      c.visit_next.new.pass,
      at,
      visited,
      rw same at c.in-Err-replace_among.ensures.stopped,
    ))

pub returns-in-Err-clause-stopped : goal.returns-in-Err-clause-stopped
returns-in-Err-clause-stopped g c =
    next-of c.args.cursor.now.next (λ none. false≢true (c.in-Err.ensures.ended none))
    (λ next. inl (c.in-Err.ensures.faults, refl, c.visit_next.ensures.seen))
