-- What an action answers.
use Rattle.std.specs.Prelude.{List, map}

-- one answer a pair, in their order
abbrev pub answers : {K V R : Type 0} → (K → V → R) → List (K × V) → List R
answers act es = map (λ e. act e.0 e.1) es
