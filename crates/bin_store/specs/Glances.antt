-- What a glance tells.
use Rattle.std.specs.Prelude.{◌≡◌, ℕ, Bool, true, Option}
use Rattle.hashkeys.specs.Classes.{covers}
use Rattle.bin_history.specs.Entries.{lookup}
use Rattle.bin_history.specs.Lawful.{BinView}
use Rattle.bin_history.specs.declared.call.Call.{Call}
use Rattle.count_ledger.specs.Views.{RoleView}
use Rattle.bin_layout.specs.BinsWithRoles.{IsBinWithRole}
use Rattle.bin_layout.specs.Views.{HomeView}

-- a bin of the map that covers the hash, which is lawful and agrees with a role of the map's ledger, has this value at
-- the key
abbrev pub IsGlanced : {K V F : Type 0} → (K → K → Bool) → (K → ℕ) → (Call K V F → Option V → Option V) → HomeView → ℕ →
    K → Option V → Type 0
IsGlanced {K} {V} {F} same_key code after home hash key value =
    (b : BinView K V F) × (r : RoleView K V F) × IsBinWithRole same_key code after home b r
    × (covers b.class hash ≡ true) × (value ≡ lookup same_key b.entries key)
