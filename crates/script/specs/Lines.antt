-- The lines of a script, and their words.
use Rattle.std.specs.Prelude.{◌≡◌, ◌≢◌, ℕ, ℤ, ◌<◌, ◌^◌, Bool, true, ◌&&◌, ◌==◌, nat_le, FitsSigned, List, [], ◌∷◌}
use Rattle.std.specs.Prelude.{◌++◌}
use Rattle.std.specs.Prelude.{All, decimal}
use Rattle.std.specs.Int.{w64}
use Rattle.std.specs.Fmt.{signed_decimal}
use Rattle.std.specs.List.{slice_split}

abbrev pub Word : Type 0
Word = List ℕ

abbrev pub line_feed : ℕ
line_feed = 10

abbrev pub space : ℕ
space = 32

-- the text begins with the line, which a line feed ends, and goes on with more
pub record BeginsWith (text l more : List ℕ) : Type 0 where
  pub parts : text ≡ l ++ line_feed ∷ more
  pub no_line_feed : All (λ b. b ≢ line_feed) l

-- the parts of a line between its spaces
abbrev pub words : List ℕ → List Word
words l = slice_split (λ b. b == space) l

-- a byte from 0x20 to 0x7E
abbrev pub is_printable : ℕ → Bool
is_printable b = nat_le 32 b && nat_le b 126

abbrev pub IsPrintable : List ℕ → Type 0
IsPrintable l = All (λ b. is_printable b ≡ true) l

-- single spaces stand between words alone: the line is not empty, none is at an end, and no two side by side
abbrev pub IsSpaced : List ℕ → Type 0
IsSpaced l = All (λ w. w ≢ []) (words l)

-- a number has one spelling: `0`, or digits of which the first is not 0, after a `-` where it is negative
abbrev pub IsNumber : Word → ℤ → Type 0
IsNumber w n = FitsSigned w64 n × (w ≡ signed_decimal n)

abbrev pub IsThreshold : Word → ℕ → Type 0
IsThreshold w n = (n < 2 ^ 64) × (w ≡ decimal n)
