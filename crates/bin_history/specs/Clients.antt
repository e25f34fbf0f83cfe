-- The records of one client.
use Rattle.std.specs.Prelude.{ℕ, ◌==◌, List, filter}
use Rattle.bin_history.specs.Records.{RecordView}

-- the records of a client's calls, in order
abbrev pub by_client : {K V F : Type 0} → ℕ → List (RecordView K V F) → List (RecordView K V F)
by_client client rs = filter (λ r. r.client == client) rs
