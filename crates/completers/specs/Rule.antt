-- The rule of a tree's table.
-- Word 2 m is the number of the node m, and word 2 m + 1 the code of the ticket above it. Slot 8 m + i is that of the
-- ticket i of the node m.
use Rattle.std.specs.Prelude.{◌≡◌, ℕ, zero, suc, ◌+◌, ◌-◌, ◌*◌, ◌<◌, ◌≤◌, Bool, true, false, if◌then◌else◌, List, []}
use Rattle.std.specs.Prelude.{◌∷◌, map, length, slice_index, Option}
use Rattle.std.specs.Prelude.{Some, None}
use mathlib.Core.Option.{some}
use mathlib.Core.Option as maybe
use lib.ListN.{get_elem?}
use Rattle.atomic_table.specs.Table.{State}
use Rattle.completers.specs.Game.{Position, IsReachable}
use Rattle.completers.specs.Limits.{most_nodes}
use Rattle.completers.specs.Parts.{IsPart}
use Rattle.completers.specs.Rights.{IsTicketAbove, code, path_of}
use Rattle.completers.specs.declared.relation.Partial.{Partial}
use Rattle.completers.specs.declared.rule.Right.{Right}
use Rattle.completers.specs.declared.rule.Right.TheVariants.{Unopened, Opened, Waits, Fills, Counted}

abbrev pub total : {A : Type 0} → (A → ℕ) → List A → ℕ
total f [] = 0
total f (x ∷ xs) = f x + total f xs

-- the same where the weight depends on the index too
abbrev pub indexed : {A : Type 0} → (ℕ → A → ℕ) → ℕ → List A → ℕ
indexed f i [] = 0
indexed f i (x ∷ xs) = f i x + indexed f (i + 1) xs

-- the own ticket is held by its node until it is given out. A ticket's slot is out with it while it writes
pub data Stage : Type 0 where
  held : Stage
  waits : Stage
  fills : Stage
  arrived : Stage

abbrev pub has_arrived : Stage → Bool
has_arrived held = false
has_arrived waits = false
has_arrived fills = false
has_arrived arrived = true

abbrev pub is_given : Stage → Bool
is_given held = false
is_given waits = true
is_given fills = true
is_given arrived = true

-- a ticket with its range
pub record Piece : Type 0 where
  pub lo : ℕ
  pub hi : ℕ
  pub stage : Stage

abbrev pub piece : ℕ → ℕ → Stage → Piece
piece lo hi st = record { lo = lo; hi = hi; stage = st }

-- the range that the node was opened for, the right above it, and its tickets in the order of their numbers, which are
-- left of it once all have arrived
pub data Cell : Type 0 where
  fresh : Cell
  going : ℕ → ℕ → List Right → List Piece → Cell
  over : List Piece → Cell

abbrev pub missing : Piece → ℕ
missing p = if has_arrived p.stage then 0 else 1

abbrev pub has_given : List Piece → Bool
has_given [] = true
has_given (p ∷ ps) = is_given p.stage

abbrev pub position_of : List Piece → Position
position_of ps = record { has_given = has_given ps; arrived = map (λ p. has_arrived p.stage) ps }

-- how often a node of n tickets forked, as its ticket i knows it
abbrev pub known_forks : ℕ → ℕ → ℕ
known_forks zero n = n - 1
known_forks (suc i) n = 0

-- the right that the ticket i of a node of n tickets stands for
abbrev pub right_of : (Right → ℕ) → ℕ → List Right → ℕ → ℕ → ℕ → ℕ → Stage → ℕ
right_of h m above n i lo hi held = h (Opened m lo hi n (path_of above))
right_of h m above n i lo hi waits = h (Waits m i lo hi (known_forks i n) (path_of above))
right_of h m above n i lo hi fills = h (Fills m i lo hi (known_forks i n) (code above) (path_of above))
right_of h m above n i lo hi arrived = h (Counted m i)

-- the rights that tokens have on a node
abbrev pub given_out : (Right → ℕ) → ℕ → Cell → ℕ
given_out h m fresh = h (Unopened m)
given_out h m (going lo top above ps) = indexed (λ i p. right_of h m above (length ps) i p.lo p.hi p.stage) 0 ps
given_out h m (over ps) = indexed (λ i p. h (Counted m i)) 0 ps

-- the rights that a node keeps
abbrev pub kept_by : (Right → ℕ) → Cell → ℕ
kept_by h fresh = 0
kept_by h (going lo top above ps) = total h above
kept_by h (over ps) = 0

-- the forked ranges, each below the ones before it
abbrev pub AreBelow : ℕ → ℕ → List Piece → Type 0
AreBelow hi top [] = hi ≡ top
AreBelow hi top (p ∷ ps) = (p.hi ≡ top) × (p.lo < p.hi) × AreBelow hi p.lo ps

abbrev pub AreTiles : ℕ → ℕ → List Piece → Type 0
AreTiles lo top [] = ⊥
AreTiles lo top (p ∷ ps) = (p.lo ≡ lo) × (lo < p.hi) × AreBelow p.hi top ps

module _ {P : Type 0} (fits : ℕ → ℕ → P → Type 0) (bins : ℕ) where
  module _ (homes : List (maybe.Option (Option (Partial P)))) (k lo hi : ℕ) where
    abbrev pub SlotOk : Stage → Type 0
    SlotOk held = get_elem? homes k ≡ some (some None)
    SlotOk waits = get_elem? homes k ≡ some (some None)
    SlotOk fills = Unit {0}
    SlotOk arrived = (x : Partial P) × (get_elem? homes k ≡ some (some (Some x))) × IsPart fits lo hi x

  pub record IsGoing (words : List ℕ) (homes : List (maybe.Option (Option (Partial P)))) (m lo top : ℕ)
      (above : List Right) (ps : List Piece) : Type 0 where
    pub number_is : slice_index words (2 * m) ≡ total missing ps
    pub code_is : slice_index words (2 * m + 1) ≡ code above
    pub above_is : IsTicketAbove bins lo top above
    pub tiled : AreTiles lo top ps
    pub few : length ps ≤ 8
    pub own_only : (i : ℕ) (p : Piece) → get_elem? ps i ≡ some p → p.stage ≡ held → i ≡ 0
    pub each_slot : (i : ℕ) (p : Piece) → get_elem? ps i ≡ some p → SlotOk homes (8 * m + i) p.lo p.hi p.stage
    pub others : (i : ℕ) → length ps ≤ i → i < 8 → get_elem? homes (8 * m + i) ≡ some (some None)
    pub reachable : IsReachable (position_of ps)

  module _ (words : List ℕ) (homes : List (maybe.Option (Option (Partial P)))) (m : ℕ) where
    abbrev pub CellOk : Cell → Type 0
    CellOk fresh = (slice_index words (2 * m) ≡ 1) × ((i : ℕ) → i < 8 → get_elem? homes (8 * m + i) ≡ some (some None))
    CellOk (going lo top above ps) = IsGoing words homes m lo top above ps
    CellOk (over ps) = Unit {0}

  -- Each right is with one token or one node at most, and each node's words and slots are as its tickets say
  pub record Holds (s : State (Option (Partial P)) (List Right)) : Type 0 where
    pub cells : List Cell
    pub words_wide : length s.words ≡ 2 * length cells
    pub homes_wide : length s.homes ≡ 8 * length cells
    pub few_nodes : length cells ≤ most_nodes
    pub each_node : (m : ℕ) (c : Cell) → get_elem? cells m ≡ some c → CellOk s.words s.homes m c
    pub each_right : (h : Right → ℕ) → total (λ v. total h v) s.views + total (kept_by h) cells
        ≤ indexed (given_out h) 0 cells
