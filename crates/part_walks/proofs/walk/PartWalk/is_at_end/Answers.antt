use Rattle.std.proofs.Common.{List, sym, subst, ◌∙◌}
use Rattle.std.proofs.lemmas.Bool.{eqb-true}
use Rattle.hashkeys.specs.Classes.{ClassView}
use Rattle.part_walks.specs.Parts.{HasWalked, IsWalkFrom, PartView}
use Rattle.part_walks.proofs.Parting.{IsWalkFrom-end}
use Rattle.part_walks.proofs.walk.PartWalk.is_at_end.Goals as goal

pub returns-then-self-clause-end : goal.returns-then-self-clause-end
returns-then-self-clause-end c = λ hit.
    let w = c.self.inside in
    let v : PartView = record { n = w.n; lo = w.lo; hi = w.hi; next = w.next } in
    subst (λ (p : PartView). (classes : List ClassView) → HasWalked p classes → IsWalkFrom p.n p.lo p.hi classes)
    c.self.view_is
    (IsWalkFrom-end v c.in-Some.next c.in-Some.is c.if-self.true (sym c.index.ensures ∙ eqb-true _ _ hit))
