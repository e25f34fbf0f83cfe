-- The name of a map, in the tag of a slot.
use Rattle.std.specs.Prelude.{ℕ, zero, suc, List, [], ◌∷◌}
use Rattle.bin_history.specs.declared.form.Form.{Form}
use Rattle.bin_history.specs.declared.form.Form.TheVariants.{Recorded, Lean}
use Rattle.count_ledger.specs.Names.{id_of}
use Rattle.bin_layout.specs.Views.{HomeView}

-- a form as a number
abbrev pub form_number : Form → ℕ
form_number Recorded = 0
form_number Lean = 1

-- the form with this number
abbrev pub form_numbered : ℕ → Form
form_numbered zero = Recorded
form_numbered (suc n) = Lean

-- the map that a slot's tag names behind a number of the slot's own: its n, its form, its salt and its ledger
abbrev pub home_named : List ℕ → HomeView
home_named (own ∷ n ∷ form ∷ salt ∷ ledger) =
    record { ledger = id_of ledger; form = form_numbered form; salt = record { 0 = salt }; n = n }
home_named _ = record { ledger = id_of []; form = Recorded; salt = record { 0 = 0 }; n = 0 }
