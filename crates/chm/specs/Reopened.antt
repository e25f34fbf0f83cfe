-- A map that was opened again with the pairs of a closed one.
use Rattle.std.specs.Prelude.{◌≡◌, ℕ, Bool, List, length, map, flat_map, All}
use Rattle.std.specs.List.{range_with_len}
use Rattle.hashkeys.specs.Classes.{is_of}
use Rattle.hashkeys.specs.declared.hashing.Salt.{Salt}
use Rattle.bin_history.specs.Entries.{lookup}
use Rattle.bin_history.specs.Part.{part_of_entries}
use Rattle.count_ledger.specs.Opening.{new_passes}
use Rattle.count_ledger.specs.Views.{PassView}
use Rattle.chm.specs.Headline.{QuietView, entries_of}
use Rattle.chm.specs.Sizes.{IsSizeFrom}
use Rattle.chm.specs.Views.{MapView}

-- the pairs of each class of a table of n bins, in order
abbrev pub parts_by_class : {K V : Type 0} → (K → ℕ) → Salt → ℕ → List (K × V) → List (List (K × V))
parts_by_class code salt n pairs = map (λ i. part_of_entries (is_of code salt (record { n = n; index = i })) pairs)
    (range_with_len 0 n)

-- the same, class after class
abbrev pub in_classes : {K V : Type 0} → (K → ℕ) → Salt → ℕ → List (K × V) → List (K × V)
in_classes code salt n pairs = flat_map (λ part. part) (parts_by_class code salt n pairs)

-- it has the closed map's form and pairs, class after class, in a table that has room for them, and a pass that made
-- nothing for each of its n clients
pub record IsReopened {K V F : Type 0} (same_key : K → K → Bool) (code : K → ℕ) (closed : QuietView K V F) (s : Salt)
    (n : ℕ) (map : MapView K V)
    (all : List (PassView K V F)) : Type 0 where
  pub form : map.ledger.form ≡ closed.ledger.form
  pub salt : map.ledger.salt ≡ s
  pub clients : map.ledger.clients ≡ n
  pub opening : map.ledger.opening ≡ in_classes code s map.n (entries_of closed.bins)
  pub same_map : (k : K) → lookup same_key map.ledger.opening k ≡ lookup same_key (entries_of closed.bins) k
  pub size : IsSizeFrom closed.ledger.form closed.n (length (entries_of closed.bins)) map.n
  pub passes : all ≡ new_passes map.ledger.id n
  pub own : All (λ p. p.ledger ≡ map.ledger.id) all
