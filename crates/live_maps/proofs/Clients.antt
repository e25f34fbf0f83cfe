-- A team has a client.
use Rattle.std.proofs.Common.{◌≡◌, ℕ, List, [], length, ap, sym, ◌∙◌, arith}
use Rattle.chm.specs.Refusals.{AreClients}

pub some-client : {P : Type 0} (lent team : List P) (clients own most : ℕ) → AreClients most clients → clients ≡ own →
    length team ≡ own → lent ≡ team → lent ≡ [] → ⊥
some-client lent team clients own most range told all same none =
    let zero : length team ≡ 0 = ap length (sym same ∙ none) in omega (arith, range, told, all, zero)
