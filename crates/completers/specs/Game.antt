-- The completion game of one node.
-- A node has its own ticket, number 0, and one for each fork, numbered from 1 in the order of the forks. Its number is
-- how many of them have not arrived.
use Rattle.std.specs.Prelude.{◌≡◌, ℕ, ◌+◌, ◌≤◌, ◌==◌, Bool, true, false, if◌then◌else◌, List, [], ◌∷◌, ◌++◌, slice_set}
use mathlib.Core.Option.{some}
use lib.ListN.{get_elem?}

pub data Event : Type 0 where
  fork : Event
  own : Event
  arrive : ℕ → Event

-- whether the own ticket was given out, and of each ticket whether it has arrived
pub record Position : Type 0 where
  pub has_given : Bool
  pub arrived : List Bool

abbrev pub start : Position
start = record { has_given = false; arrived = false ∷ [] }

abbrev pub waiting : List Bool → ℕ
waiting [] = 0
waiting (b ∷ bs) = (if b then 0 else 1) + waiting bs

-- how many tickets have not arrived
abbrev pub number : Position → ℕ
number p = waiting p.arrived

-- forks come before the own ticket, which is given out once. A ticket that is out arrives once
abbrev pub IsNext : Position → Event → Type 0
IsNext p fork = p.has_given ≡ false
IsNext p own = p.has_given ≡ false
IsNext p (arrive t) = (get_elem? p.arrived t ≡ some false) × (t ≡ 0 → p.has_given ≡ true)

abbrev pub after : Position → Event → Position
after p fork = record { has_given = p.has_given; arrived = p.arrived ++ false ∷ [] }
after p own = record { has_given = true; arrived = p.arrived }
after p (arrive t) = record { has_given = p.has_given; arrived = slice_set p.arrived t true }

abbrev pub IsGame : Position → List Event → Type 0
IsGame p [] = Unit {0}
IsGame p (e ∷ es) = IsNext p e × IsGame (after p e) es

abbrev pub position_after : Position → List Event → Position
position_after p [] = p
position_after p (e ∷ es) = position_after (after p e) es

-- an arrival is last when it leaves the number at 0
abbrev pub is_last : Position → Event → Bool
is_last p fork = false
is_last p own = false
is_last p (arrive t) = number (after p (arrive t)) == 0

-- how many arrivals are last
abbrev pub lasts : Position → List Event → ℕ
lasts p [] = 0
lasts p (e ∷ es) = (if is_last p e then 1 else 0) + lasts (after p e) es

-- where the own ticket is given out and all tickets have arrived
abbrev pub IsComplete : Position → Type 0
IsComplete p = (p.has_given ≡ true) × (number p ≡ 0)

abbrev pub EndsInLast : List Event → Type 0
EndsInLast es = (before : List Event) × (t : ℕ) × (es ≡ before ++ arrive t ∷ []) × (lasts start before ≡ 0)
    × (lasts start es ≡ 1)

-- in every game there is at most one last arrival. Where the own ticket is given out
-- and all tickets have arrived there is exactly one, the final event, and nowhere else
abbrev pub OneLast : Type 0
OneLast = (es : List Event) → IsGame start es
    → (lasts start es ≤ 1) × (IsComplete (position_after start es) → EndsInLast es)
    × (lasts start es ≡ 1 → IsComplete (position_after start es))

-- some list of events leads there
abbrev pub IsReachable : Position → Type 0
IsReachable p = (es : List Event) × IsGame start es × (position_after start es ≡ p)

-- the event is allowed where a game has led to, and that position is such
abbrev pub IsPossible : Event → (Position → Type 0) → Type 0
IsPossible e Such = (p : Position) × IsReachable p × IsNext p e × Such p
