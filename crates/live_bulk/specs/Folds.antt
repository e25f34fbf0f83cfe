-- Folds of what a live map shows.
use Rattle.std.specs.Prelude.{◌≡◌, ◌≤◌, ◌^◌, ℕ, Bool, IsTrue, IfSome, Result, Ok, Err, List, length}
use Rattle.bulk_tasks.specs.Folds.{plain_fold}
use Rattle.live_bulk.specs.declared.fault.LiveFault.{LiveFault}
use Rattle.live_bulk.specs.declared.fault.LiveFault.TheVariants.{NoMemory, BadWorkers, NoClient, TooMany}
use Rattle.live_bulk.specs.declared.folding.Folded.{Folded}

-- a fold of the pairs, within the bound of so many, and how many they are; it fails only where a reducer may refuse, or
-- where they are as many as no number of 64 bits counts
abbrev pub IsFolded : {K V A : Type 0} → (K → V → A) → (A → A → A) → (ℕ → A → Type 0) → Bool → List (K × V) →
    Result (Folded A) LiveFault → Type 0
IsFolded lift join within never_refuses es (Ok f) = (f.value ≡ plain_fold lift join es)
    × IfSome f.value (within (length es)) × (f.count ≡ length es)
IsFolded lift join within never_refuses es (Err NoMemory) = ¬ IsTrue never_refuses
IsFolded lift join within never_refuses es (Err BadWorkers) = ⊥
IsFolded lift join within never_refuses es (Err NoClient) = ⊥
IsFolded lift join within never_refuses es (Err TooMany) = 2 ^ 64 ≤ length es
