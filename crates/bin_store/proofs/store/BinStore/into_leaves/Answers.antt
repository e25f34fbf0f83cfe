use Rattle.std.proofs.Common.{rules, ◌≡◌, subst, All, IfSome}
use Rattle.bin_history.specs.declared.form.Form.TheVariants.{Lean}
use Rattle.bin_history.specs.Calls.{after}
use Rattle.bin_layout.specs.BinsWithRoles.{AreBinsWithRoles}
use Rattle.bin_layout.specs.Views.{HomeView}
use Rattle.generations.specs.Generations.{FitsForm}
use Rattle.bin_store.proofs.Fitting.{if_some, lean-fits}
use Rattle.bin_store.proofs.store.BinStore.into_leaves.Goals as goal

pub returns-in-Recorded-clause-with_roles : goal.returns-in-Recorded-clause-with_roles
returns-in-Recorded-clause-with_roles g c =
    subst (λ (home : HomeView). IfSome c.into_leaves.result (λ p. AreBinsWithRoles g.K.PartialEq.eq g.K.HashKey.code
    (after g.V.PartialEq.eq g.F.Remap.remapped g.F.Remap.merged) home p.0.items p.1.items))
    (search rules) c.into_leaves.ensures.with_roles

pub returns-in-Lean-clause-with_roles : goal.returns-in-Lean-clause-with_roles
returns-in-Lean-clause-with_roles g c =
    subst (λ (home : HomeView). IfSome c.into_leaves-in-Lean.result (λ p. AreBinsWithRoles g.K.PartialEq.eq g.K.HashKey.code
    (after g.V.PartialEq.eq g.F.Remap.remapped g.F.Remap.merged) home p.0.items p.1.items))
    (search rules) c.into_leaves-in-Lean.ensures.with_roles

pub returns-in-Recorded-clause-few : goal.returns-in-Recorded-clause-few
returns-in-Recorded-clause-few g c =
    let both = subst (λ (home : HomeView). IfSome c.into_leaves.result (λ p. AreBinsWithRoles g.K.PartialEq.eq
    g.K.HashKey.code (after g.V.PartialEq.eq g.F.Remap.remapped g.F.Remap.merged) home p.0.items p.1.items)
    × IfSome c.into_leaves.result (λ p. All (λ b. FitsForm home b.class.n) p.0.items)) {y = c.args.self} (search rules)
    (c.into_leaves.ensures.with_roles, c.into_leaves.ensures.few) in
    both.1

pub returns-in-Lean-clause-few : goal.returns-in-Lean-clause-few
returns-in-Lean-clause-few g c =
    let own : c.in-Lean.home ≡ c.args.self = search rules in
    let lean : c.in-Lean.home.form ≡ Lean = search rules in
    subst (λ (home : HomeView). IfSome c.into_leaves-in-Lean.result (λ p. All (λ b. FitsForm home b.class.n) p.0.items))
    own (if_some (λ p. All (λ b. FitsForm c.in-Lean.home b.class.n) p.0.items) c.into_leaves-in-Lean.result
    (λ p. lean-fits c.in-Lean.home lean p.0.items))
