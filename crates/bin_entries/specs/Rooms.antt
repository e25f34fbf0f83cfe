-- Room for one entry more.
use Rattle.std.specs.Prelude.{◌≡◌, None, List, []}
use Rattle.bin_entries.specs.declared.append.Room.{Room}

-- without a box there is room in an empty place alone
abbrev pub HasRoom : {K V A : Type 0} → Room K V A → List (K × V) → Type 0
HasRoom room entries = room.empty ≡ None → entries ≡ []
