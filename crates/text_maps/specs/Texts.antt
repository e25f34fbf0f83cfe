-- Keys of texts under a seed, and why a map of texts is not opened.
use Rattle.std.specs.Prelude.{◌≡◌, ◌⊎◌, ⊤, ℕ, List, Bool, ◌&&◌, nat_eq}
use Rattle.std.specs.Cmp.Lexicographic.{pointwise}
use Rattle.chm.specs.declared.fault.Fault.TheVariants.{NoMemory, BadCapacity}
use Rattle.seeded_keys.specs.Places.{KeyView}
use Rattle.seeded_keys.specs.Seeds.{keyed}
use Rattle.seeded_keys.specs.declared.seed.Seed.{Seed}
use Rattle.text_maps.specs.declared.text_fault.TextFault.{TextFault}
use Rattle.text_maps.specs.declared.text_fault.TextFault.TheVariants.{NoSeed, OfMap}

-- the key of a text: its bytes, beside their code under the seed. So texts that differ have keys that differ, and equal
-- texts have one key
abbrev pub key_of : Seed → List ℕ → KeyView
key_of seed bytes = record { code = keyed seed bytes; bytes = bytes }

-- whether the map takes two keys for one
abbrev pub same_key : KeyView → KeyView → Bool
same_key x y = nat_eq x.code y.code && pointwise nat_eq x.bytes y.bytes

-- no seed, or a map that could not be opened, for want of memory or of a right capacity
abbrev pub IsOpeningFault : TextFault → Type 0
IsOpeningFault (NoSeed _) = ⊤
IsOpeningFault (OfMap fault) = (fault ≡ NoMemory) ⊎ (fault ≡ BadCapacity)
