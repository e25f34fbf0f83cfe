-- The rule of a table of places: a value stands under each word but that of a place that is held.
use Rattle.std.specs.Prelude.{◌≡◌, ◌≢◌, ℕ, ◌+◌, ◌*◌, length}
use mathlib.Core.Option.{Option, some}
use lib.ListN.{get_elem?}
use Rattle.atomic_table.specs.Table.{State}
use Rattle.lock_table.specs.declared.terms.Terms.{Terms}

-- where the word of a place lies
abbrev pub word_of : ℕ → ℕ → ℕ
word_of stride at = 8 + at * stride

-- the word of a place where a value of a kind stands
abbrev pub present : ℕ → ℕ
present kind = 1 + 4 * kind

module _ {X T : Type 0} (fits : T → ℕ → ℕ → X → Type 0) where
  -- under the word n a value stands at home, unless it is held, and it fits where the word says that it is there
  abbrev pub IsHome : T → ℕ → ℕ → Option X → Type 0
  IsHome tag at n home = n ≢ 2 → (x : X) × (home ≡ some x) × ((kind : ℕ) → n ≡ present kind → fits tag at kind x)

  -- at each place
  pub record AreHome (t : Terms T) (s : State X (Terms T)) : Type 0 where
    pub wide : length s.words ≡ word_of t.stride (length s.homes)
    pub at_each : (at n : ℕ) (home : Option X) → get_elem? s.words (word_of t.stride at) ≡ some n → get_elem? s.homes at ≡ some home →
        IsHome t.tag at n home
