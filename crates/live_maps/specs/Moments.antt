-- Clients that work between two moments.
use Rattle.std.specs.Prelude.{List, All}
use Rattle.bin_history.specs.Records.{RecordView}
use Rattle.count_ledger.specs.Fronts.{BeginsWith}
use Rattle.count_ledger.specs.Views.{PassView}

-- clients had seen all calls of a moment before they began, so each front that they are shown begins with these calls;
-- and a later moment begins with all that each of them had seen when it ended
pub record AreBetween {K V F : Type 0} (before : List (RecordView K V F)) (olds news : List (PassView K V F))
    (later : List (RecordView K V F)) : Type 0 where
  pub told : All (λ p. BeginsWith p.seen before) olds
  pub heard : All (λ p. BeginsWith later p.seen) news
