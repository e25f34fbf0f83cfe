-- A function of the tests.
use Rattle.std.specs.Prelude.{ℕ, ◌*◌, min, Option, None, Some}

-- twice the value, as far as 64 bits go, and 1 where there is none
abbrev pub doubled : Option ℕ → ℕ
doubled None = 1
doubled (Some n) = min (n * 2) 18446744073709551615
