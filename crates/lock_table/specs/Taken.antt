-- What a seat holds.
use Rattle.std.specs.Prelude.{◌≡◌, ℕ, Option, Some, None, List, [], ◌∷◌, map, drop}
use Rattle.std.proofs.Common.{ap, ◌∙◌, refl}
use Rattle.atomic_table.specs.Table.{rest}

-- the value that was taken last
abbrev pub taken : {X : Type 0} → List (ℕ × X) → Option X
taken [] = None
taken (x ∷ xs) = Some x.1

-- the places whose values are taken
abbrev pub places : {X : Type 0} → List (ℕ × X) → List ℕ
places xs = map (λ x. x.0) xs

pub places_rest : {X : Type 0} (c : List (ℕ × X)) → places (rest c) ≡ drop 1 (places c)
places_rest [] = refl
places_rest (x ∷ xs) = refl

-- another value at the one place that is taken
pub still_one : {X : Type 0} (c : List (ℕ × X)) (at : ℕ) (w : X) → places c ≡ at ∷ [] → places ((at, w) ∷ rest c) ≡ at ∷ []
still_one c at w e = ap (λ l. at ∷ l) (places_rest c ∙ ap (λ l. drop 1 l) e)
