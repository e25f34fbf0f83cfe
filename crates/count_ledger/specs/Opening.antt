-- A new ledger: its passes made nothing, its roles keep nothing.
use Rattle.std.specs.Prelude.{◌≡◌, ℕ, ◌-◌, ◌<◌, true, List, [], length, map, slice_index_or, All}
use Rattle.std.specs.List.{range_with_len}
use Rattle.std.specs.declared.vec.Vec.{Vec}
use Rattle.hashkeys.specs.Classes.{ClassView, is_of}
use Rattle.hashkeys.specs.declared.hashing.Salt.{Salt}
use Rattle.count_ledger.specs.Views.{LedgerId, PassView, RoleView, RosterView}

-- a vector of vectors as a list of lists
abbrev pub lists_of : {X Y Z : Type 0} → Vec (Vec X Y) Z → List (List X)
lists_of v = map (λ b. b.items) v.items

-- the base at an index
abbrev pub base_at : {X : Type 0} → List (List X) → ℕ → List X
base_at bases i = slice_index_or bases i []

-- the class at an index, of as many as there are bases
abbrev pub class_at : {X : Type 0} → List (List X) → ℕ → ClassView
class_at bases i = record { n = length bases; index = i }

-- each base has keys of the class at its index alone
abbrev pub AreOfTheirClasses : {K V : Type 0} → (K → ℕ) → Salt → List (List (K × V)) → Type 0
AreOfTheirClasses code salt bases = (i : ℕ) → i < length bases →
    All (λ e. is_of code salt (class_at bases i) e.0 ≡ true) (base_at bases i)

-- a pass that made and saw nothing
abbrev pub new_pass : {K V F : Type 0} → LedgerId → ℕ → PassView K V F
new_pass id client = record { ledger = id; client = client; made = []; seen = [] }

-- a pass for each of so many clients
abbrev pub new_passes : {K V F : Type 0} → LedgerId → ℕ → List (PassView K V F)
new_passes id clients = map (new_pass id) (range_with_len 0 clients)

-- the passes that a roster has yet
abbrev pub left_in : {K V F : Type 0} → RosterView → List (PassView K V F)
left_in roster = map (new_pass roster.ledger) (range_with_len roster.next (roster.clients - roster.next))

-- a role that keeps nothing, over the base at an index
abbrev pub new_role : {K V F : Type 0} → LedgerId → Salt → List (List (K × V)) → ℕ → RoleView K V F
new_role id salt bases i = record {
  ledger = id;
  salt = salt;
  class = class_at bases i;
  opening =
      base_at bases i;
  kept = [];
}

-- a role for each base
abbrev pub new_roles : {K V F : Type 0} → LedgerId → Salt → List (List (K × V)) → List (RoleView K V F)
new_roles id salt bases = map (new_role id salt bases) (range_with_len 0 (length bases))
