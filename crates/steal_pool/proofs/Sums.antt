-- What the members count, when one of them changes.
use Rattle.std.proofs.Common.{◌≡◌, Bool, true, false, if◌then◌else◌, ℕ, ◌+◌, ◌<◌, List, [], ◌∷◌, ◌++◌, length, get_or, set}
use Rattle.std.proofs.Common.{sum_by, ap, arith}
use Rattle.std.proofs.lemmas.List.Sums.{sum_by-set, sum_by_push}

pub kept : {X : Type 0} (f : X → ℕ) (xs : List X) (i : ℕ) (x d : X) → i < length xs → f x ≡ f (get_or xs i d)
    → sum_by f (set xs i x) ≡ sum_by f xs
kept f xs i x d lt same = omega (arith, sum_by-set f xs i x d lt)

-- one member gives away some of what it counts
pub lent : {X : Type 0} (f : X → ℕ) (xs : List X) (i : ℕ) (x d : X) (n : ℕ) → i < length xs →
    f x + n ≡ f (get_or xs i d)
    → sum_by f (set xs i x) + n ≡ sum_by f xs
lent f xs i x d n lt less = omega (arith, sum_by-set f xs i x d lt)

-- one member counts more
pub gained : {X : Type 0} (f : X → ℕ) (xs : List X) (i : ℕ) (x d : X) (n : ℕ) → i < length xs →
    f x ≡ f (get_or xs i d) + n
    → sum_by f (set xs i x) ≡ sum_by f xs + n
gained f xs i x d n lt more = omega (arith, sum_by-set f xs i x d lt)

-- the last member is settled, v of its tasks are left, and w of those before
pub settled : {X : Type 0} (p t : X → ℕ) (xs rest : List X) (y : X) (pushed taken w v : ℕ) →
    xs ≡ rest ++ y ∷ [] → p y ≡ t y + v
    → pushed + sum_by t xs ≡ sum_by p xs + taken + w → pushed + sum_by t rest ≡ sum_by p rest + taken + (w + v)
settled p t xs rest y pushed taken w v last books all =
    let a = sum_by_push p rest y in
    let b = sum_by_push t rest y in
    let e : sum_by p xs ≡ sum_by p (rest ++ y ∷ []) = ap (sum_by p) last in
    let e' : sum_by t xs ≡ sum_by t (rest ++ y ∷ []) = ap (sum_by t) last in
    omega arith

-- what counts nothing is pushed, or is not
pub kept_by_push : {X : Type 0} (f : X → ℕ) (b : Bool) (old new : List X) (x : X) → f x ≡ 0
    → new ≡ (if b then old ++ x ∷ [] else old) → sum_by f new ≡ sum_by f old
kept_by_push f true old new x nothing is =
    let all : sum_by f new ≡ sum_by f (old ++ x ∷ []) = ap (sum_by f) is in
    omega (arith, all, sum_by_push f old x, nothing)
kept_by_push f false old new x nothing is = ap (sum_by f) is
