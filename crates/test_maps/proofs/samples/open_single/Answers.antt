use Rattle.std.proofs.Common.{◌≡◌, ◌++◌, ◌∷◌, [], List, Option, Some, None, sym, subst}
use Rattle.std.specs.Prelude.{IfSome}
use Rattle.count_ledger.specs.Views.{PassView}
use Rattle.chm.specs.Views.{MapView}
use Rattle.chm.specs.Opened.{IsNew}
use Rattle.test_maps.proofs.samples.open_single.Goals as goal

-- two facts of what is there, if it is, give a third
both : {S : Type 0} (A B C : S → Type 0) (r : Option S) → ((s : S) → A s → B s → C s) → IfSome r A → IfSome r B
    → IfSome r C
both A B C (Some s) f a b = f s a b
both A B C None f a b = tt

pub returns-in-Ok-clause-new : goal.returns-in-Ok-clause-new
returns-in-Ok-clause-new g c =
    let New : MapView g.row.K.Denot g.row.V.Denot
    → List (PassView g.row.K.Denot g.row.V.Denot g.row.F.Denot) → Type 0
    = λ m ps. IsNew {F = g.row.F.Denot} c.args.form (record { 0 = 0 }) c.args.capacity 1 m ps in
    both (λ s. s.map ≡ c.in-Ok.opened.0) (λ s. (s.place.items ++ (s.pass ∷ [])) ≡ c.in-Ok.opened.1.items)
    (λ s. New s.map (s.place.items ++ (s.pass ∷ []))) c.take_pass.result
    (λ s map passes. subst (λ (m : MapView g.row.K.Denot g.row.V.Denot).
    New m (s.place.items ++ (s.pass ∷ []))) (sym map)
    (subst (λ (ps : List (PassView g.row.K.Denot g.row.V.Denot g.row.F.Denot)). New c.in-Ok.opened.0 ps) (sym passes)
    c.in-Ok.ensures.new))
    c.take_pass.ensures.map c.take_pass.ensures.passes
