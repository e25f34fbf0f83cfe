-- What walks and clears tell of each class by itself.
use Rattle.std.specs.Prelude.{◌≡◌, ℕ, Bool, Option, List}
use Rattle.hashkeys.specs.Classes.{ClassView}
use Rattle.bin_history.specs.Entries.{replay}
use Rattle.bin_history.specs.Records.{RecordView}
use Rattle.bin_history.specs.declared.call.Call.{Call}
use Rattle.count_ledger.specs.Fronts.{IsHistory}
use Rattle.count_ledger.specs.Views.{LedgerView, PassView}
use Rattle.chm.specs.Views.{opening_in}

-- the entries are what a history of the class made of the opening map's part
abbrev pub AreOfHistory : {K V F : Type 0} → (K → K → Bool) → (K → ℕ) → (Call K V F → Option V → Option V) →
    LedgerView K V → PassView K V F → ClassView → List (K × V) → Type 0
AreOfHistory {K} {V} {F} same_key code after ledger pass class entries = (kept : List (RecordView K V F))
    × IsHistory same_key after code ledger pass class kept
    × (entries ≡ replay same_key (opening_in code ledger class) kept)
