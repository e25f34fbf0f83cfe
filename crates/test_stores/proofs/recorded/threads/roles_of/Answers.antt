use Rattle.std.proofs.Common.{◌≡◌, ℕ, Bool, Option, List, [], ◌∷◌, All}
use Rattle.std.proofs.lemmas.List.Elements.{All-nil, All-cons}
use Rattle.bin_history.specs.Lawful.{BinView}
use Rattle.bin_history.specs.declared.call.Call.{Call}
use Rattle.count_ledger.specs.Views.{RoleView}
use Rattle.bin_layout.specs.BinsWithRoles.{AreBinsWithRoles}
use Rattle.bin_layout.specs.Views.{HomeView}
use Rattle.test_stores.proofs.recorded.threads.roles_of.Goals as goal

module _ {K V F : Type 0} (same : K → K → Bool) (code : K → ℕ) (after : Call K V F → Option V → Option V)
    (g : HomeView) where
  ledgers_of : (bs : List (BinView K V F)) (rs : List (RoleView K V F)) → AreBinsWithRoles same code after g bs rs →
      All (λ r. r.ledger ≡ g.ledger) rs
  ledgers_of [] [] a = All-nil (λ (r : RoleView K V F). r.ledger ≡ g.ledger)
  ledgers_of (b ∷ bs) (r ∷ rs) a = All-cons (λ (x : RoleView K V F). x.ledger ≡ g.ledger) r rs a.0.ledger
      (ledgers_of bs rs a.1)
  ledgers_of [] (r ∷ rs) a = absurd a
  ledgers_of (b ∷ bs) [] a = absurd a

pub returns : goal.returns
returns g c = ledgers_of _ _ _ c.args.map _ _ c.in-Some.ensures.with_roles
