-- What stands for a key is the key.
use Rattle.std.proofs.Common.{◌≡◌, ℕ, ap, ◌∙◌}
use Rattle.seeded_keys.specs.Seeds.{keyed}
use Rattle.seeded_keys.specs.declared.seed.Seed.{Seed}
use Rattle.facing_maps.specs.Keys.{Bytes, Key, key_of}

abbrev made : ℕ → Bytes → Key
made code bytes = record { code = code; bytes = bytes }

pub key-is : (code : ℕ) (bytes : Bytes) (seed : Seed) (key : Bytes) → code ≡ keyed seed key → bytes ≡ key
    → made code bytes ≡ key_of seed key
key-is code bytes seed key is are = ap (λ (n : ℕ). made n bytes) is ∙ ap (λ (b : Bytes). made (keyed seed key) b) are
