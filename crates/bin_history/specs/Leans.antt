-- A lean bin as a bin.
use Rattle.std.specs.Prelude.{ℕ, List, [], ◌∷◌}
use Rattle.bin_history.specs.Lawful.{BinView}
use Rattle.bin_history.specs.declared.form.Form.TheVariants.{Lean}
pub use Rattle.bin_entries.specs.Leans.{LeanView, AreOf, IsLeanChain}

-- how many entries have room in a lean bin's place beside these
abbrev pub room_in_place : {X : Type 0} → List X → ℕ
room_in_place [] = 1
room_in_place (e ∷ es) = 0

-- a lean bin as a bin: it has no records, its base is its entries, and it has room in hand for a first entry
abbrev pub as_bin : {K V F : Type 0} → LeanView K V → BinView K V F
as_bin l = record {
  form = Lean;
  salt = l.salt;
  class = l.class;
  base = l.entries;
  records = [];
  entries = l.entries;
  record_room = 0;
  entry_room = room_in_place l.entries;
}
