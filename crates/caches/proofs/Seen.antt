-- What a step of a walk has seen.
use Rattle.std.proofs.Common.{◌≡◌, Bool, true, false, refl}
use Rattle.count_ledger.specs.Fronts.{HasSeenMore}
use Rattle.count_ledger.specs.Views.{PassView}

-- a step that showed a bucket, or came to the end
pub seen_by_step : {K V F : Type 0} (old new : PassView K V F) (shown : Bool)
    → (shown ≡ true → HasSeenMore old new) → (shown ≡ false → HasSeenMore old new) → HasSeenMore old new
seen_by_step old new true shows ends = shows refl
seen_by_step old new false shows ends = ends refl
