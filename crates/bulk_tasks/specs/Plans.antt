-- Refusals of a bulk operation.
use Rattle.std.specs.Prelude.{ℕ, ◌≤◌, ◌<◌, ◌↔◌, Result, IsErrOf}
use Rattle.steal_pool.specs.Limits.{most_workers}
use Rattle.bulk_tasks.specs.declared.fault.BulkFault.{BulkFault}
use Rattle.bulk_tasks.specs.declared.fault.BulkFault.TheVariants.{BadWorkers}

abbrev pub AreWorkers : ℕ → Type 0
AreWorkers workers = (0 < workers) × (workers ≤ most_workers)

-- the number of workers is told to be bad just where it is 0 or too great
abbrev pub IsPlanned : {T : Type 0} → ℕ → Result T BulkFault → Type 0
IsPlanned workers result = IsErrOf result BadWorkers ↔ (¬ AreWorkers workers)
