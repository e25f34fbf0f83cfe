-- A walk from one index of a table to another.
use Rattle.std.specs.Prelude.{◌≡◌, ℕ, ◌%◌, ◌<◌, ◌≤◌, ◌==◌, ◌&&◌, ◌⊎◌, ◌++◌, Bool, true, Option, Some, None}
use Rattle.std.specs.Prelude.{IfSome, List, nat_lt, if◌then◌else◌}
use Rattle.hashkeys.specs.Classes.{ClassView, IsClass, IsTableSize, covers}
use Rattle.bin_layout.specs.Walks.{IsWalk, IsWalkTo}

-- a table is cut into no more shares than this
abbrev pub most_shares : ℕ
most_shares = 65536

-- a walk over the indexes from lo to below hi of a table of n bins: the class that is next, or none behind the last
pub record PartView : Type 0 where
  pub n : ℕ
  pub lo : ℕ
  pub hi : ℕ
  pub next : Option ClassView

-- the class at an index of a table of n bins; none behind the last
abbrev pub class_at : ℕ → ℕ → Option ClassView
class_at n index = if nat_lt index n then Some (record { n = n; index = index }) else None

-- a bin's class is the first, in walk order, of those that a class has become
pub record IsFirstOf (next class : ClassView) : Type 0 where
  pub next_is : IsClass next
  pub class_is : IsClass class
  pub covers : covers class next.index ≡ true
  pub narrow : next.n ≤ class.n

-- the walk has come to the class at hi, or behind the last
abbrev pub ends_at : ℕ → ℕ → Option ClassView → Bool
ends_at n hi None = true
ends_at n hi (Some next) = nat_lt hi n && (next.index == hi)

abbrev pub is_at_end : PartView → Bool
is_at_end w = ends_at w.n w.hi w.next

-- a walk that has this class next, or none, is before the class at hi, or has come to it
abbrev pub HasNotPassed : ℕ → ℕ → Option ClassView → Type 0
HasNotPassed n hi None = n ≤ hi
HasNotPassed n hi (Some next) = (next.index % n < hi) ⊎ ((next.index ≡ hi) × (hi < n))

pub record IsPart (w : PartView) : Type 0 where
  pub size : IsTableSize w.n
  pub within : w.hi ≤ w.n
  pub least : IfSome w.next (λ c. w.n ≤ c.n)
  pub left : HasNotPassed w.n w.hi w.next

-- in walk order, each hash before the next class is of one of these classes, at the end every hash
abbrev pub HasComeTo : ℕ → Option ClassView → List ClassView → Type 0
HasComeTo n (Some next) classes = IsWalkTo n classes next
HasComeTo n None classes = IsWalk n classes

-- from one index to another: a walk that has come to the one by some classes has come to the other by these classes more
abbrev pub IsWalkFrom : ℕ → ℕ → ℕ → List ClassView → Type 0
IsWalkFrom n lo hi classes = (before : List ClassView) → HasComeTo n (class_at n lo) before →
    HasComeTo n (class_at n hi) (before ++ classes)

-- the same from where a walk began to where it has come
abbrev pub HasWalked : PartView → List ClassView → Type 0
HasWalked w classes = (before : List ClassView) → HasComeTo w.n (class_at w.n w.lo) before →
    HasComeTo w.n w.next (before ++ classes)
