use Rattle.std.proofs.Common.{◌≡◌, [], ◌∷◌, ◌++◌, List, All, sym, ap, subst, ◌∙◌}
use Rattle.std.proofs.lemmas.List.Elements.{All-head, All-tail}
use Rattle.std.specs.Vec.Iter.{into_iter_items}
use Rattle.hashkeys.specs.declared.hashing.Salt.{Salt}
use Rattle.count_ledger.specs.Views.{RoleView}
use Rattle.test_bins.proofs.held.hold_all.Goals as goal

All-middle : {X : Type 0} (P : X → Type 0) (xs : List X) (x : X) (rest : List X) → All P (xs ++ x ∷ rest) → P x
All-middle P [] x rest all = All-head P x rest all
All-middle P (y ∷ xs) x rest all = All-middle P xs x rest (All-tail P y (xs ++ x ∷ rest) all)

-- a role of those behind the ones that have bins is new
abbrev IsNew : {K V F : Type 0} → Salt → RoleView K V F → Type 0
IsNew salt r = (r.salt ≡ salt) × (r.opening ≡ []) × (r.kept ≡ [])

next_is_new : {K V F : Type 0} (salt : Salt) (all held before after : List (RoleView K V F)) (r : RoleView K V F)
    → All (IsNew salt) all → held ++ before ≡ all → before ≡ r ∷ after → IsNew salt r
next_is_new salt all held before after r new whole first =
    All-middle (IsNew salt) held r after
    (subst (All (IsNew salt)) (sym whole ∙ ap (λ (l : List (RoleView _ _ _)). held ++ l) first) new)

pub new-requires-clause-salt : goal.new-requires-clause-salt
new-requires-clause-salt g c =
    (next_is_new c.args.salt c.args.roles.items c.loop-role.bins.items (into_iter_items c.loop-role.role-iterator)
    (into_iter_items c.next.new.self) c.in-Some.role c.requires.new c.loop-role.invariant c.in-Some.ensures.steps.0).0

pub new-requires-clause-opening : goal.new-requires-clause-opening
new-requires-clause-opening g c =
    (next_is_new c.args.salt c.args.roles.items c.loop-role.bins.items (into_iter_items c.loop-role.role-iterator)
    (into_iter_items c.next.new.self) c.in-Some.role c.requires.new c.loop-role.invariant c.in-Some.ensures.steps.0).1

pub new-requires-clause-kept : goal.new-requires-clause-kept
new-requires-clause-kept g c =
    (next_is_new c.args.salt c.args.roles.items c.loop-role.bins.items (into_iter_items c.loop-role.role-iterator)
    (into_iter_items c.next.new.self) c.in-Some.role c.requires.new c.loop-role.invariant c.in-Some.ensures.steps.0).2
