-- Parts that are joined.
use Rattle.std.specs.Prelude.{◌⊎◌, List, [], ◌∷◌}

-- one of the parts is an end
abbrev pub HasEnd : {T : Type 0} → (T → Type 0) → List T → Type 0
HasEnd ends [] = ⊥
HasEnd ends (t ∷ ts) = ends t ⊎ HasEnd ends ts
