use Rattle.std.proofs.Common.{◌≡◌, ◌<◌, ℕ, List, [], length, All, get_or, refl, ap, ◌∙◌, arith}
use Rattle.std.proofs.Math.ListN.{get_or-eq_default}
use Rattle.std.proofs.lemmas.Grind.{common_steps}
use Rattle.std.proofs.lemmas.List.{length-map}
use Rattle.std.proofs.lemmas.List.Elements.{All-map}
use Rattle.std.proofs.lemmas.List.FromFn.{length-map-range_with_len}
use Rattle.std.proofs.lemmas.Result.{IfOk-weaker}
use Rattle.std.specs.List.{range_with_len}
use Rattle.count_ledger.specs.Opening.{new_role, lists_of}
use Rattle.test_bins.proofs.ledgers.open_books.Goals as goal

-- of lists that are all empty each is, whether it is there or not
none_at : {X : Type 0} (xs : List (List X)) → All (λ x. x ≡ []) xs → (i : ℕ) → get_or xs i [] ≡ []
none_at xs none i = let out = get_or-eq_default xs [] {n = i} in grind (arith, common_steps, none i [], out)

pub new-requires-clause-keys : goal.new-requires-clause-keys
new-requires-clause-keys c =
    let none = All-map (λ base. base ≡ []) (λ base. base.items) c.in_ok-bases.bases.items c.in_ok-bases.ensures.empty in
    λ i under k d inside. let less : k < 0 = rw (none i [] under) at inside in absurd (omega arith)

pub returns-clause-own : goal.returns-clause-own
returns-clause-own c =
    IfOk-weaker c.new.result _ _
    (λ r e. rw e (All-map (λ x. x.ledger ≡ r.0.id) (new_role r.0.id (record { 0 = 0 }) (lists_of c.in_ok-bases.bases))
    (range_with_len 0 _)
    (λ k d inside. refl))) c.new.ensures.roles

pub returns-clause-new : goal.returns-clause-new
returns-clause-new c =
    let none = All-map (λ base. base ≡ []) (λ base. base.items) c.in_ok-bases.bases.items c.in_ok-bases.ensures.empty in
    IfOk-weaker c.new.result _ _
    (λ r e. rw e (All-map (λ x. (x.salt ≡ record { 0 = 0 }) × (x.opening ≡ []) × (x.kept ≡ []))
    (new_role r.0.id (record { 0 = 0 }) (lists_of c.in_ok-bases.bases))
    (range_with_len 0 _)
    (λ k d inside. (refl, none_at (lists_of c.in_ok-bases.bases) none _, refl)))) c.new.ensures.roles

pub returns-clause-roles : goal.returns-clause-roles
returns-clause-roles c =
    let lists = lists_of c.in_ok-bases.bases in
    IfOk-weaker c.new.result _ _
    (λ r e. ap length e ∙ length-map-range_with_len (new_role r.0.id (record { 0 = 0 }) lists) 0 (length lists)
    ∙ length-map c.in_ok-bases.bases.items (λ base. base.items) ∙ c.in_ok-bases.ensures.len) c.new.ensures.roles
