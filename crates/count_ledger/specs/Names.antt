-- A ledger's identity as a list of numbers.
use Rattle.std.specs.Prelude.{ℕ, List, [], ◌∷◌}
use Rattle.count_ledger.specs.Views.{LedgerId}

abbrev pub numbers_of : LedgerId → List ℕ
numbers_of id = id.words ∷ id.slots ∷ id.views_name ∷ id.atom ∷ id.block ∷ id.offset ∷ id.slot_names

-- the identity with these numbers
abbrev pub id_of : List ℕ → LedgerId
id_of (a ∷ b ∷ c ∷ d ∷ e ∷ f ∷ names) = record {
  words = a;
  slots = b;
  views_name = c;
  atom = d;
  block = e;
  offset =
      f;
  slot_names = names;
}
id_of _ = record { words = 0; slots = 0; views_name = 0; atom = 0; block = 0; offset = 0; slot_names = [] }
