-- Where the ways of a pool's members lead.
use Rattle.std.specs.Prelude.{◌≡◌, ℕ, zero, suc, ◌+◌, ◌*◌, List, [], ◌∷◌, length, map, sum_by}
use Rattle.steal_pool.specs.declared.way.Way.{Way}
use Rattle.steal_pool.specs.declared.member.Member.{Member}

-- A member's number, how many ways into its deque are out, and the numbers of the members that its own ways lead to.
pub record Shape : Type 0 where
  pub number : ℕ
  pub out : ℕ
  pub ways : List ℕ

module _ {T A S : Type 0} {g : _} where
  -- the numbers of the members that the ways lead to
  abbrev pub targets : List (Way T A S g) → List ℕ
  targets ws = map (λ w. w.to) ws

  abbrev pub shape : Member T A S g → Shape
  shape m = record { number = m.number; out = m.out; ways = targets m.ways.items }

  abbrev pub shapes : List (Member T A S g) → List Shape
  shapes ms = map shape ms

  -- no way into its deque is out, and it has no way
  abbrev pub IsHome : Member T A S g → Type 0
  IsHome m = (m.out ≡ 0) × (m.ways.items ≡ [])

-- the numbers below n, the largest first
abbrev pub countdown : ℕ → List ℕ
countdown zero = []
countdown (suc n) = n ∷ countdown n

abbrev pub numbers : List Shape → List ℕ
numbers ss = map (λ s. s.number) ss

-- where each member's own ways lead
abbrev pub own_ways : List Shape → List (List ℕ)
own_ways ss = map (λ s. s.ways) ss

-- the members' own ways, each with the weight of the member that it leads to
abbrev pub weight_led : (ℕ → ℕ) → List Shape → ℕ
weight_led f ss = sum_by (λ s. sum_by f s.ways) ss

-- the ways that are out, each with the weight of the member whose deque it leads into
abbrev pub weight_out : (ℕ → ℕ) → List Shape → ℕ
weight_out f ss = sum_by (λ s. s.out * f s.number) ss

-- The members' numbers go down to 0. Of each member as many ways are out as lead to it, whether they lie loose, with
-- these targets, or other members have them: so it is however members are weighed.
pub record AreCrew (loose : List ℕ) (ss : List Shape) : Type 0 where
  pub numbered : numbers ss ≡ countdown (length ss)
  pub ways : (f : ℕ → ℕ) → sum_by f loose + weight_led f ss ≡ weight_out f ss
