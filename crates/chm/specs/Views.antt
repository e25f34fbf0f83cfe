-- A map, as contracts see it.
use Rattle.std.specs.Prelude.{◌≡◌, ℕ, ◌≤◌, List, length}
use Rattle.hashkeys.specs.Classes.{ClassView, is_of}
use Rattle.bin_history.specs.Limits.{most_lean_clients}
use Rattle.bin_history.specs.Part.{part_of_entries}
use Rattle.count_ledger.specs.Views.{LedgerView}
use Rattle.bin_layout.specs.Views.{HomeView}
use Rattle.chm.specs.Limits.{most_pairs}
use Rattle.chm.specs.Sizes.{most_bins_of}

-- its books, and the number of bins that it opened with
pub record MapView (K V : Type 0) : Type 0 where
  pub ledger : LedgerView K V
  pub n : ℕ

-- the part of the opening map in a class
abbrev pub opening_in : {K V : Type 0} → (K → ℕ) → LedgerView K V → ClassView → List (K × V)
opening_in code ledger class = part_of_entries (is_of code ledger.salt class) ledger.opening

-- what a map keeps: its bins are under its books and of their form, which has a table of so many as it opened with, and
-- it counted its opening pairs
pub record IsMap {K V : Type 0} (ledger : LedgerView K V) (bins : HomeView) (opened : ℕ) : Type 0 where
  pub id : bins.ledger ≡ ledger.id
  pub form : bins.form ≡ ledger.form
  pub salt : bins.salt ≡ ledger.salt
  pub opened_is : opened ≡ length ledger.opening
  pub few : opened ≤ most_pairs
  pub wide : bins.n ≤ most_bins_of ledger.form
  pub clients : ledger.clients ≤ most_lean_clients

-- the map's bins, as its layer of bins names them
abbrev pub bins_of : {K V : Type 0} → MapView K V → HomeView
bins_of m = record { ledger = m.ledger.id; form = m.ledger.form; salt = m.ledger.salt; n = m.n }
