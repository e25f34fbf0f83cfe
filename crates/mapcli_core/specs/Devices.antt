-- Counts of failed reads and writes, and what a failed write leaves.
use Rattle.std.specs.Prelude.{ℕ, ◌+◌, ◌^◌, ◌%◌, ◌<◌, List, length, take, Option, Result, is_ok, if◌then◌else◌}
use Rattle.std.specs.Io.KnownBytes.{Appends}

-- one failure more, modulo 2^64
abbrev pub one_more : ℕ → ℕ
one_more n = (n + 1) % 2 ^ 64

-- the count after a read or a write with this result
abbrev pub failures_after : {T E : Type 0} → Result T E → ℕ → ℕ
failures_after r n = if is_ok r then n else one_more n

-- known bytes grow by a beginning of these, and not by all
abbrev pub AppendsFront : Option (List ℕ) → Option (List ℕ) → List ℕ → Type 0
AppendsFront old new bytes = (n : ℕ) × (n < length bytes) × Appends old new (take n bytes)
