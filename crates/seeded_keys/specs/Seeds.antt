-- Codes of bytes under a seed.
use Rattle.std.specs.Prelude.{ℕ, List, ◌%◌, ◌^◌}
use Rattle.core.specs.Hash.DefaultHasher.{with_keys, write, finish}
use Rattle.seeded_keys.specs.declared.seed.Seed.{Seed}

-- the lower half of the bytes' SipHash-1-3 under the seed's two numbers
abbrev pub keyed : Seed → List ℕ → ℕ
keyed seed bytes = finish (write (with_keys seed.key0 seed.key1) bytes) % 2 ^ 32
