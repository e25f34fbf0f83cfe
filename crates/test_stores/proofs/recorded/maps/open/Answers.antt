use Rattle.std.proofs.Common.{◌≡◌, ◌<◌, [], refl, sym, subst, All, arith}
use Rattle.std.proofs.lemmas.List.Elements.{All-map}
use Rattle.std.specs.List.{range_with_len}
use Rattle.count_ledger.specs.Opening.{new_pass}
use Rattle.count_ledger.specs.Views.{PassView}
use Rattle.test_stores.proofs.recorded.maps.open.Goals as goal

pub new-requires-clause-keys : goal.new-requires-clause-keys
new-requires-clause-keys g c =
    let none = All-map (λ base. base ≡ []) (λ base. base.items) c.in_ok-bases.bases.items c.in_ok-bases.ensures.empty in
    λ i under k d inside. let less : k < 0 = rw (none i [] under) at inside in absurd (omega arith)

pub new-requires-2-clause-of_class : goal.new-requires-2-clause-of_class
new-requires-2-clause-of_class g c =
    let none = All-map (λ base. base ≡ []) (λ base. base.items) c.in_ok-bases.bases.items c.in_ok-bases.ensures.empty in
    λ i under k d inside. let less : k < 0 = rw (none i [] under) at inside in absurd (omega arith)

pub returns-in-Ok-clause-passes : goal.returns-in-Ok-clause-passes
returns-in-Ok-clause-passes g c =
    let own = All-map (λ (p : PassView _ _ _). p.ledger ≡ c.in_ok-ledger.ledger.id) (new_pass c.in_ok-ledger.ledger.id)
    (range_with_len 0 c.args.clients)
    (λ k d inside. refl) in
    subst (All (λ (p : PassView _ _ _). p.ledger ≡ c.in_ok-ledger.ledger.id)) (sym c.in_ok-ledger.ensures.passes) own
