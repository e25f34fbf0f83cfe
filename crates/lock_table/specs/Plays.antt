-- What the steps on a place tell: of the step, the seat before, the number found and the seat after.
use Rattle.std.specs.Prelude.{◌≡◌, ◌≢◌, ℕ, ◌∷◌}
use Rattle.atomic_table.specs.Table.{Me, Step, rest}
use Rattle.lock_table.specs.declared.terms.Terms.{Terms}
use Rattle.lock_table.specs.Places.{word_of, present}

module _ {X T : Type 0} where
  -- a new seat knows the table's terms
  abbrev pub Sits : Step X → Me X (Terms T) → ℕ → Me X (Terms T) → Type 0
  Sits st me n me' = me' ≡ me

  -- it gave back what it took last
  abbrev pub Gives : Step X → Me X (Terms T) → ℕ → Me X (Terms T) → Type 0
  Gives st me n me' = me' ≡ (me.0, rest me.1)

  module _ (fits : T → ℕ → ℕ → X → Type 0) where
    -- it took the value of a place, which fits where the word said that it was there
    abbrev pub Took : Me X (Terms T) → ℕ → ℕ → Me X (Terms T) → Type 0
    Took me at n me' = (x : X) × (me' ≡ (me.0, (at, x) ∷ me.1)) × ((kind : ℕ) → n ≡ present kind → fits me.0.tag at kind x)

    -- it took the value where it found the word that it expected
    abbrev pub Takes : Step X → Me X (Terms T) → ℕ → Me X (Terms T) → Type 0
    Takes st me n me' = (n ≡ st.first → (at : ℕ) → st.word ≡ word_of me.0.stride at → Took me at st.first me') × (n ≢ st.first → me' ≡ me)
