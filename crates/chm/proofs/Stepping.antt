-- Where a walk by numbers goes on.
use Rattle.std.proofs.Common.{◌≡◌, ℕ, ◌+◌, ◌*◌, ◌%◌, ◌^◌, ◌<◌, ◌≤◌, ◌⊎◌, inl, inr, true, Option, Some, None, List, All}
use Rattle.std.proofs.Common.{[], ◌∷◌, ◌++◌}
use Rattle.std.proofs.Common.{◌/◌, ◌-◌, ap, sym, subst, ◌∙◌, arith}
use Rattle.std.specs.Prelude.{IfOk, IfSome, IfNone, IsSomeAnd, Result, Ok}
use Rattle.std.proofs.Math.Nat.{mod-eq_of_lt}
use Rattle.std.proofs.Math.Pow.{pow_mono}
use Rattle.std.proofs.lemmas.Bool.{eqb-true, cases_lt}
use Rattle.std.proofs.lemmas.Nat.{pow_below, pow-add}
use Rattle.hashkeys.specs.Classes.{ClassView, IsClass, IsTableSize, covering, covers}
use Rattle.hashkeys.specs.Limits.{most_bins, most_exponent}
use Rattle.bin_layout.proofs.Sizes.{size_few}
use Rattle.bin_layout.specs.Walks.{IsWalkTo, Precedes}
use Rattle.part_walks.specs.Parts.{IsFirstOf}
use Rattle.chm.specs.Cursors.{CursorView, HasCome, list_of}
use Rattle.chm.specs.Numbered.{GoesOnAt, HasComeAt, IsNumberOf, IsOfTable, first_end, hash_at}
use Rattle.chm.specs.Visits.{VisitView}

-- the first of those that a class has become begins where the class does
pub first-at : (next class : ClassView) → IsFirstOf next class → class.index ≡ next.index
first-at next class first =
    let of : next.index % class.n ≡ class.index = eqb-true (next.index % class.n) class.index first.covers in
    let small : next.index < class.n = let narrow = first.narrow in let below = first.next_is.1 in omega arith in
    sym of ∙ mod-eq_of_lt {n = next.index} {m = class.n} small

-- the size of the widest class that begins at a hash behind a table of n
pub behind : (n hash e : ℕ) → IsTableSize n → n ≤ hash → hash < most_bins → 2 ^ e ≤ hash → hash < 2 * 2 ^ e →
    IsTableSize (1 * 2 ^ (e + 1) % 4294967296) × (hash < 1 * 2 ^ (e + 1) % 4294967296)
    × (n ≤ 1 * 2 ^ (e + 1) % 4294967296)
behind n hash e size least few low high =
    let below : e < 26 = elim (cases_lt e 26) [
      | inl l ↦ l
      | inr ge ↦ absurd (omega (arith, pow_mono {i = 26} {j = e} ge))
    ] in
    let small : 2 ^ (e + 1) < 4294967296 = pow_below (e + 1) 32 (omega arith) in
    let is : 1 * 2 ^ (e + 1) % 4294967296 ≡ 2 ^ (e + 1) = omega (arith, mod-eq_of_lt {n = 2 ^ (e + 1)} {m = 4294967296} small) in
    let double : 2 ^ (e + 1) ≡ 2 * 2 ^ e = let more = pow-add 2 e 1 in omega (arith, more) in
    ((e + 1, omega arith, is), omega arith, omega arith)

-- a number that names a table names one of at most 2^26 bins
pub exponent-at : (number most : ℕ) → most ≡ most_bins → number < first_end → 0 < number / most →
    (number / most_bins - 1 ≤ most_exponent) × (number / most_bins ≡ number / most_bins - 1 + 1)
exponent-at number most is few above =
    let there : 0 < number / most_bins = subst (λ (m : ℕ). 0 < number / m) is above in
    (omega (arith, few), omega (arith, there))

-- the number of a place has the exponent of the table above the first hash of the class
pub IsNumberOf-at : (e : ℕ) (next : Option ClassView) (class : ClassView) (number : ℕ) → next ≡ Some class → IsClass class →
    number ≡ (e + 1) * most_bins + class.index → IsNumberOf e next number
IsNumberOf-at e next class number at (size, below) is =
    subst (λ (o : Option ClassView). IsNumberOf e o number) (sym at)
    (let few = size_few class.n size in omega (arith, few, below), is)

-- of the class that is next a walk knows the first hash alone
walk-at : (n : ℕ) (classes : List ClassView) (d k : ClassView) → d.index ≡ k.index → IsWalkTo n classes d →
    IsWalkTo n classes k
walk-at n classes d k e w = record {
  each_class = w.each_class;
  each_hash = λ hash. subst
      (λ (i : ℕ). (Precedes n hash i × (covering classes hash ≡ 1)) ⊎ ((Precedes n hash i → ⊥) × (covering classes hash ≡ 0))) e
      (w.each_hash hash);
  in_order = w.in_order;
  before = subst (λ (i : ℕ). All (λ (c : ClassView). Precedes n c.index i) classes) e w.before;
  least = w.least;
}

-- one that goes on at a number with a table goes on at the class that begins at its hash
pub HasCome-on : {K V : Type 0} (n number e : ℕ) (shown : List (VisitView K V)) (next : Option ClassView) →
    number < first_end → number / most_bins ≡ e + 1 → n ≡ 2 ^ e → IsSomeAnd next (λ k. k.index ≡ hash_at number) →
    HasComeAt number shown → HasCome (record { n = n; next = next }) shown
HasCome-on n number e shown None few table is at come = absurd at
HasCome-on n number e shown (Some k) few table is at (inl (zero, empty)) = absurd (omega (arith, table, zero))
HasCome-on n number e shown (Some k) few table is at (inr (d, None, le, end, come)) = absurd (omega (arith, few, end))
HasCome-on {K} {V} n number e shown (Some k) few table is at (inr (d, Some next, le, (low, sum), come)) =
    let same : d ≡ e = omega (arith, table, low, sum) in
    let there : next.index ≡ k.index = omega (arith, at, low, sum) in
    subst (λ (m : ℕ). HasCome {K = K} {V = V} (record { n = m; next = Some k }) shown) (ap (λ (x : ℕ). 2 ^ x) same ∙ sym is)
    (walk-at (2 ^ d) _ next k there come)

-- and at the number of the place behind it
pub HasComeAt-of : {K V : Type 0} (number : ℕ) (cursor : CursorView) (shown : List (VisitView K V)) →
    ((e : ℕ) × (e ≤ most_exponent) × (cursor.n ≡ 2 ^ e) × IsNumberOf e cursor.next number) → HasCome cursor shown →
    HasComeAt number shown
HasComeAt-of {K} {V} number cursor shown (e, le, n_is, is) come = inr (
  e,
  cursor.next,
  le,
  is,
  subst (λ (m : ℕ). HasCome {K = K} {V = V} (record { n = m; next = cursor.next }) shown) n_is come,
)

-- a step from there shows what begins at the number
pub shown-at : {K V : Type 0} (P Q : VisitView K V → Type 0) (number : ℕ) (next : Option ClassView)
    (v : Option (VisitView K V)) → IsSomeAnd next (λ k. k.index ≡ number) →
    IfSome v (λ v. IsSomeAnd next (λ k. IsFirstOf k v.class)) → IfSome v (λ v. P v × Q v) →
    IfSome v (λ v. (v.class.index ≡ number) × (covers v.class number ≡ true) × P v × Q v)
shown-at P Q number next None at first is = tt
shown-at P Q number None (Some v) at first is = absurd at
shown-at P Q number (Some k) (Some v) at first is = (
  first-at k v.class first ∙ at,
  subst (λ (i : ℕ). covers v.class i ≡ true) at first.covers,
  is.0,
  is.1,
)

-- it goes on behind that
pub come-at : {K V : Type 0} (number : ℕ) (cursor : CursorView) (shown : List (VisitView K V))
    (v : Option (VisitView K V)) → ((e : ℕ) × (e ≤ most_exponent) × (cursor.n ≡ 2 ^ e) × IsNumberOf e cursor.next number) →
    HasCome cursor (shown ++ list_of v) → IfSome v (λ v. HasComeAt number (shown ++ v ∷ []))
come-at number cursor shown None of come = tt
come-at number cursor shown (Some v) of come = HasComeAt-of number cursor (shown ++ v ∷ []) of come

-- whatever the number, over the table of the cursor
pub goes-on : {K V : Type 0} (number then e n : ℕ) (next : Option ClassView) (cursor : CursorView)
    (v : Option (VisitView K V)) → e ≤ most_exponent → n ≡ 2 ^ e → IsOfTable e number →
    IsSomeAnd next (λ k. k.index ≡ hash_at number) →
    ((d : ℕ) × (d ≤ most_exponent) × (cursor.n ≡ 2 ^ d) × IsNumberOf d cursor.next then) →
    ((shown : List (VisitView K V)) → HasCome (record { n = n; next = next }) shown → HasCome cursor (shown ++ list_of v)) →
    IfSome v (λ v. GoesOnAt number v then)
goes-on number then e n next cursor None le is of at to on = tt
goes-on number then e n None cursor (Some v) le is of at to on = absurd at
goes-on {K} {V} number then e n (Some k) cursor (Some v) le is of at to on = (
  e,
  le,
  of,
  λ shown come. HasComeAt-of then cursor (shown ++ v ∷ []) to (on shown
      (subst (λ (m : ℕ). HasCome {K = K} {V = V} (record { n = m; next = Some k }) shown) (sym is)
      (walk-at (2 ^ e) _ (record { n = 2 ^ e; index = hash_at number }) k (sym at) come))),
)

-- it is not at the end
pub shown-some : {X : Type 0} (P Q : Type 0) (R : ClassView → Type 0) (next : Option ClassView) (v : Option X) →
    IsSomeAnd next R → IfNone v ((next ≡ None) × P) → IfNone v Q
shown-some P Q R next (Some v) at end = tt
shown-some P Q R next None at (is, rest) = absurd (subst (λ (o : Option ClassView). IsSomeAnd o R) is at)

-- what a result is where it is there
pub ok_is : {T E : Type 0} (P : T → Type 0) (r : Result T E) (v : T) → r ≡ Ok v → IfOk r P → P v
ok_is {T} {E} P r v is all = subst (λ (s : Result T E). IfOk s P) is all
