-- Refusals of a bulk operation on a live map.
use Rattle.std.specs.Prelude.{ℕ, ◌↔◌, Result, IsErrOf}
use Rattle.bulk_tasks.specs.Plans.{AreWorkers}
use Rattle.live_bulk.specs.declared.fault.LiveFault.{LiveFault}
use Rattle.live_bulk.specs.declared.fault.LiveFault.TheVariants.{BadWorkers}

-- the number of workers is told to be bad just where it is 0 or too great
abbrev pub IsPlanned : {T : Type 0} → ℕ → Result T LiveFault → Type 0
IsPlanned workers result = IsErrOf result BadWorkers ↔ (¬ AreWorkers workers)
