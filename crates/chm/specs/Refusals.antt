-- When calls of a map are refused.
use Rattle.std.specs.Prelude.{◌≡◌, ℕ, ◌≤◌, ◌⊎◌}
use Rattle.hashkeys.specs.Limits.{most_bins}
use Rattle.bin_history.specs.declared.form.Form.{Form}
use Rattle.bin_history.specs.declared.form.Form.TheVariants.{Recorded, Lean}
use Rattle.chm.specs.Limits.{most_recorded_capacity}
use Rattle.chm.specs.declared.fault.Fault.{Fault}
use Rattle.chm.specs.declared.fault.Fault.TheVariants.{NoMemory, BadCapacity, BadClients, PassFull}

-- of a recorded map
abbrev pub IsCapacity : ℕ → Type 0
IsCapacity n = (1 ≤ n) × (n ≤ most_recorded_capacity)

-- the most bins that a map of the form is opened for
abbrev pub most_capacity : Form → ℕ
most_capacity Recorded = most_recorded_capacity
most_capacity Lean = most_bins

-- of a map of the form
abbrev pub IsCapacityOf : Form → ℕ → Type 0
IsCapacityOf form n = (1 ≤ n) × (n ≤ most_capacity form)

-- of a map that has at most so many clients
abbrev pub AreClients : ℕ → ℕ → Type 0
AreClients most n = (1 ≤ n) × (n ≤ most)

-- the refusals of making a map
abbrev pub IsMaking : Fault → Type 0
IsMaking fault = (fault ≡ NoMemory) ⊎ (fault ≡ BadCapacity) ⊎ (fault ≡ BadClients)

-- the refusals of a call
abbrev pub IsOfCall : Fault → Type 0
IsOfCall fault = (fault ≡ NoMemory) ⊎ (fault ≡ PassFull)
