-- Where the bytes of a key lie.
use Rattle.std.specs.Prelude.{ℕ, ◌<◌, ◌≤◌, List, length, take}
use Rattle.seeded_keys.specs.declared.hashed.Place.{Place}
use Rattle.seeded_keys.specs.declared.hashed.Place.TheVariants.{Inline, UpTo24, UpTo32, UpTo48, UpTo64, Apart}

-- a key, as contracts see it
pub record KeyView : Type 0 where
  pub code : ℕ
  pub bytes : List ℕ

module _ {A : Type 0} where
  abbrev pub bytes_at : Place A → List ℕ
  bytes_at (Inline short _) = short
  bytes_at (UpTo24 len _ block) = take len block.value
  bytes_at (UpTo32 len _ block) = take len block.value
  bytes_at (UpTo48 len _ block) = take len block.value
  bytes_at (UpTo64 len _ block) = take len block.value
  bytes_at (Apart _ bytes) = bytes.value.items

  abbrev pub code_at : Place A → ℕ
  code_at (Inline _ code) = code
  code_at (UpTo24 _ code _) = code
  code_at (UpTo32 _ code _) = code
  code_at (UpTo48 _ code _) = code
  code_at (UpTo64 _ code _) = code
  code_at (Apart code _) = code

  abbrev pub key_at : Place A → KeyView
  key_at place = record { code = code_at place; bytes = bytes_at place }

  -- no more than 18 bytes lie inline, and more lie in a block of their own
  abbrev pub IsPlace : Place A → Type 0
  IsPlace (Inline short _) = length short ≤ 18
  IsPlace (UpTo24 len _ block) = (len ≤ 24) × (18 < length (take len block.value))
  IsPlace (UpTo32 len _ block) = (len ≤ 32) × (18 < length (take len block.value))
  IsPlace (UpTo48 len _ block) = (len ≤ 48) × (18 < length (take len block.value))
  IsPlace (UpTo64 len _ block) = (len ≤ 64) × (18 < length (take len block.value))
  IsPlace (Apart _ bytes) = 18 < length bytes.value.items
