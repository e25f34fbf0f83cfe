-- Pairs that are copied out of a bucket.
use Rattle.std.specs.Prelude.{◌≡◌, ◌⊎◌, ℕ, ◌+◌, ◌<◌, ◌≤◌, ◌++◌, ◌∷◌, [], List, length, map, flat_map, min, take, drop}
use Rattle.std.specs.Prelude.{Bool, true, Option, Some, None, Result, Ok, Err}
use Rattle.std.specs.List.{HoldsAt}
use Rattle.hashkeys.specs.Classes.{covers}
use Rattle.bin_history.specs.Lawful.{BinView}
use Rattle.bin_history.specs.declared.call.Call.{Call}
use Rattle.count_ledger.specs.Fronts.{HasSeen, HasSeenMore}
use Rattle.count_ledger.specs.Views.{PassView}
use Rattle.chm.specs.Numbered.{GoesOnAt, HasComeAt, IsEnd, end_of_walk, hash_at}
use Rattle.chm.specs.Views.{MapView}
use Rattle.chm.specs.Visits.{VisitView, IsVisit}
use Rattle.clients.specs.Clients.{ClientView}
use Rattle.facing_maps.specs.Keys.{Bytes, Key}
use Rattle.facing_maps.specs.Statuses.{facing_busy, facing_no_memory, facing_wrong_handle}
use Rattle.facing_maps.specs.declared.stage.Stage.{Stage}
use Rattle.facing_maps.specs.declared.stage.Stage.TheVariants as stage

-- the pairs of a bucket, or none at the end, and the number that a walk goes on at; or the status for which nothing was
-- shown
abbrev pub Seen : Type 0 → Type 0 → Type 0
Seen K V = Result (Option (List (K × V)) × ℕ) ℕ

-- they are the pairs of the bin with this number, and the walk goes on behind it; there is none; or there was no memory
abbrev pub IsClosedSeen : {K V F : Type 0} → List (BinView K V F) → ℕ → Seen K V → Type 0
IsClosedSeen bins at (Ok (Some pairs, next)) = (next ≡ at + 1) × HoldsAt (λ b. b.entries ≡ pairs) bins at
IsClosedSeen bins at (Ok (None, next)) = (length bins ≤ at) × (next ≡ end_of_walk)
IsClosedSeen bins at (Err status) = status ≡ facing_no_memory

module _ {K V F : Type 0} (same_key : K → K → Bool) (code : K → ℕ) (after : Call K V F → Option V → Option V) where
  -- they are what all calls so far left in the bucket, or the part of one, that begins at this number: a walk that came
  -- there goes on behind it; there is none; or another thread was in the way, or there was no memory
  abbrev pub IsLiveSeen : MapView K V → ℕ → PassView K V F → PassView K V F → Seen K V → Type 0
  IsLiveSeen map at old new (Ok (Some pairs, next)) = (v : VisitView K V) × (v.entries ≡ pairs)
      × (v.class.index ≡ hash_at at) × (covers v.class (hash_at at) ≡ true) × HasSeen same_key after map.ledger old new
      × IsVisit same_key code map.ledger new.seen v
      × ((shown : List (VisitView K V)) → HasComeAt at shown → HasComeAt next (shown ++ v ∷ [])) × GoesOnAt at v next
  IsLiveSeen map at old new (Ok (None, next)) = IsEnd at next × (new ≡ old)
  IsLiveSeen map at old new (Err status) = ((status ≡ facing_busy) × (new ≡ old)) ⊎ ((status ≡ facing_no_memory) × HasSeenMore old new)

  -- of a closed map, which stays as it is, and of a client, which stays one of its map; of anything else the
  -- status is facing_wrong_handle
  abbrev pub IsSeen : Stage K V F → ℕ → Stage K V F → Seen K V → Type 0
  IsSeen (stage.Client c) at then seen = (d : ClientView K V F) × (then ≡ stage.Client d) × (d.map ≡ c.map)
      × IsLiveSeen c.map at c.pass d.pass seen
  IsSeen (stage.Closed q) at then seen = (then ≡ stage.Closed q) × IsClosedSeen q.bins at seen
  IsSeen other at then seen = (then ≡ other) × (seen ≡ Err facing_wrong_handle)

-- room for keys, and room for values
abbrev pub Room : Type 0
Room = List ℕ × List ℕ

-- the first n keys and values are those of the first n pairs, and these are as many as there is room for; the rest of
-- the room is as it was
pub record AreNumbers (key : ℕ → ℕ) (pairs : List (ℕ × ℕ)) (before after : Room) (n : ℕ) : Type 0 where
  pub keys_are : take n after.0 ≡ map (λ pair. key pair.0) (take n pairs)
  pub values_are : take n after.1 ≡ map (λ pair. pair.1) (take n pairs)
  pub all : n ≡ min (length pairs) (min (length after.0) (length after.1))
  pub keys_stay : drop n after.0 ≡ drop n before.0
  pub values_stay : drop n after.1 ≡ drop n before.1

-- room for the lengths of keys, for the numbers of values, and for the bytes of both
abbrev pub Rooms : Type 0
Rooms = List ℕ × List ℕ × Bytes

-- the bytes of pairs, of key and value in turn
abbrev pub bytes_of : {V : Type 0} → (V → Bytes) → List (Key × V) → Bytes
bytes_of laid pairs = flat_map (λ pair. pair.0.bytes ++ laid pair.1) pairs

module _ {V : Type 0} (number : V → ℕ) (laid : V → Bytes) where
  -- after n pairs there are no more, or there is no room for one more
  abbrev pub IsAll : List (Key × V) → Rooms → ℕ → Type 0
  IsAll pairs rooms n = (n ≡ length pairs) ⊎ (n ≡ length rooms.0) ⊎ (n ≡ length rooms.1)
      ⊎ (length rooms.2 < length (bytes_of laid (take (n + 1) pairs)))

  -- the first n lengths of keys and numbers of values are those of the first n pairs, and the first bytes are theirs; these
  -- pairs are as many as there is room for; what is beyond them is as it was
  pub record AreCopied (pairs : List (Key × V)) (before after : Rooms) (n : ℕ) : Type 0 where
    pub few : n ≤ length pairs
    pub all : IsAll pairs after n
    pub key_lens_are : take n after.0 ≡ map (λ pair. length pair.0.bytes) (take n pairs)
    pub numbers_are : take n after.1 ≡ map (λ pair. number pair.1) (take n pairs)
    pub bytes_are : take (length (bytes_of laid (take n pairs))) after.2 ≡ bytes_of laid (take n pairs)
    pub key_lens_stay : drop n after.0 ≡ drop n before.0
    pub numbers_stay : drop n after.1 ≡ drop n before.1
    pub bytes_stay : drop (length (bytes_of laid (take n pairs))) after.2
        ≡ drop (length (bytes_of laid (take n pairs))) before.2
