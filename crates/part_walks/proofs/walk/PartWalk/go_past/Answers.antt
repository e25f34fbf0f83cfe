use Rattle.std.proofs.Common.{◌≡◌, false, IsSomeAnd, sym, subst}
use Rattle.part_walks.specs.Parts.{HasWalked, IsFirstOf, PartView, is_at_end}
use Rattle.part_walks.proofs.Parting.{IsPart-past, HasWalked-past}
use Rattle.part_walks.proofs.walk.PartWalk.go_past.Goals as goal

pub invariant_of-self : goal.invariant_of-self
invariant_of-self c =
    let w = c.self.inside in
    let v : PartView = record { n = w.n; lo = w.lo; hi = w.hi; next = w.next } in
    let then = c.next_in_walk-self-inside in
    IsPart-past v c.args.class then.result c.self.invariant
    (subst (λ (p : PartView). is_at_end p ≡ false) (sym c.self.view_is) c.requires.more)
    (subst (λ (p : PartView). IsSomeAnd p.next (λ next. IsFirstOf next c.args.class)) (sym c.self.view_is) c.requires.first)
    then.ensures.next then.ensures.last then.ensures.least

pub returns-clause-walked : goal.returns-clause-walked
returns-clause-walked c = λ classes walked.
    let w = c.self.inside in
    let v : PartView = record { n = w.n; lo = w.lo; hi = w.hi; next = w.next } in
    let then = c.next_in_walk-self-inside in
    HasWalked-past v c.args.class then.result c.self.invariant
    (subst (λ (p : PartView). is_at_end p ≡ false) (sym c.self.view_is) c.requires.more)
    (subst (λ (p : PartView). IsSomeAnd p.next (λ next. IsFirstOf next c.args.class)) (sym c.self.view_is) c.requires.first)
    then.ensures.next then.ensures.last classes
    (subst (λ (p : PartView). HasWalked p classes) (sym c.self.view_is) walked)
