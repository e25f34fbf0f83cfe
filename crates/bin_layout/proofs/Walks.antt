-- Walk order, at classes and at their halves.
use Rattle.std.proofs.Common.{◌≡◌, ◌≢◌, ℕ, zero, suc, ◌+◌, ◌-◌, ◌*◌, ◌/◌, ◌%◌, ◌^◌, ◌<◌, ◌≤◌, ◌⊎◌, inl}
use Rattle.std.proofs.Common.{inr, ◌↔◌, ◌||◌}
use Rattle.std.proofs.Common.{Bool, true, false, sym, ap, subst, refl}
use Rattle.std.proofs.Common.{◌∙◌, add-one, arith, Option, Some, None, IfSome, IfNone}
use Rattle.std.specs.Int.{◌∣◌}
use Rattle.std.proofs.Math.Nat.{mod-mod_of_dvd, mod-lt, mod-le, mod-eq_of_lt, mod-eq-sub-mod, dvd-mul_left}
use Rattle.std.proofs.Math.Nat.{add-mul-mod_self_right, mul_assoc, mul_comm}
use Rattle.std.proofs.Math.Nat.{mul-add}
use Rattle.std.proofs.lemmas.Bool.{cases_lt, eqb-true, eq-eqb}
use Rattle.std.proofs.lemmas.Nat.{pow-add, pow_below}
use Rattle.hashkeys.proofs.Halves.{covers-halves}
use Rattle.hashkeys.specs.Classes.{ClassView, IsClass, IsTableSize, covers}
use Rattle.bin_layout.specs.Walks.{Precedes, HasPassed, IsFirstAfter, IsLastInWalk}

-- a table's size is a doubling of each that is no greater
pub doubled : (n m : ℕ) → IsTableSize n → IsTableSize m → n ≤ m → (k : ℕ) × (m ≡ n * 2 ^ k)
doubled n m (a, _, n_is) (b, _, m_is) le =
    let order : a ≤ b = elim (cases_lt b a) [ inl l ↦ let p = pow_below b a l in absurd (omega arith) | inr g ↦ g ] in
    let sum : a + (b - a) ≡ b = omega arith in
    (b - a, m_is ∙ ap (λ (x : ℕ). 2 ^ x) (sym sum) ∙ pow-add 2 a (b - a) ∙ ap (λ (x : ℕ). x * 2 ^ (b - a)) (sym n_is))

-- a number below a size and one less than the size more, whose remainder is i, is i
remainder_is : (size r i : ℕ) → r % size ≡ i → r < i + size → i < size → r ≡ i
remainder_is size r i at less lt =
    elim (cases_lt r size) [
      | inl l ↦ sym (mod-eq_of_lt l) ∙ at
      | inr ge ↦ let rest : r - size < size = omega arith in
          let is : r % size ≡ r - size = mod-eq-sub-mod ge ∙ mod-eq_of_lt rest in absurd (omega arith)
    ]

either_of : (a b : Bool) → (a || b) ≡ true → (a ≡ true) ⊎ (b ≡ true)
either_of true b e = inl refl
either_of false b e = inr e

or_right : (a b : Bool) → b ≡ true → (a || b) ≡ true
or_right true b e = refl
or_right false b e = e

class_is : (c : ClassView) (n i : ℕ) → c.n ≡ n → c.index ≡ i → c ≡ record { n = n; index = i }
class_is c n i e f = λ x. record { n = e x; index = f x }

module _ (n : ℕ) where
  multiple : (j k : ℕ) → j ≤ k → n * 2 ^ k ≡ 2 ^ (k - j) * (n * 2 ^ j)
  multiple j k le = let sum : (k - j) + j ≡ k = omega arith in let p = pow-add 2 (k - j) j in
      let q : 2 ^ k ≡ 2 ^ (k - j) * 2 ^ j = ap (λ (x : ℕ). 2 ^ x) (sym sum) ∙ p in
      ap (λ (x : ℕ). n * x) q ∙ sym (mul_assoc n (2 ^ (k - j)) (2 ^ j)) ∙ ap (λ (x : ℕ). x * 2 ^ j)
      (mul_comm n (2 ^ (k - j)))
      ∙ mul_assoc (2 ^ (k - j)) n (2 ^ j)

  -- the remainder by a size, of the remainder by a greater one
  down : (j k h : ℕ) → j ≤ k → h % (n * 2 ^ k) % (n * 2 ^ j) ≡ h % (n * 2 ^ j)
  down j k h le =
      mod-mod_of_dvd (n * 2 ^ j) h
      (subst (λ (x : ℕ). (n * 2 ^ j) ∣ x) (sym (multiple j k le)) (dvd-mul_left (n * 2 ^ j) (2 ^ (k - j))))

  rises : (j k h : ℕ) → j ≤ k → h % (n * 2 ^ j) ≤ h % (n * 2 ^ k)
  rises j k h le = subst (λ (x : ℕ). x ≤ h % (n * 2 ^ k)) (down j k h le) (mod-le (h % (n * 2 ^ k)) (n * 2 ^ j))

  -- a greater size does not show in the remainder by a size
  above : (j k i : ℕ) → j ≤ k → (i + n * 2 ^ k) % (n * 2 ^ j) ≡ i % (n * 2 ^ j)
  above j k i le = ap (λ (x : ℕ). (i + x) % (n * 2 ^ j)) (multiple j k le) ∙ add-mul-mod_self_right i
      (2 ^ (k - j)) (n * 2 ^ j)

  doubles : (k : ℕ) → n * 2 ^ (k + 1) ≡ n * 2 ^ k + n * 2 ^ k
  doubles k = let p = pow-add 2 k 1 in let q : 2 ^ (k + 1) ≡ 2 ^ k + 2 ^ k = omega arith in
      ap (λ (x : ℕ). n * x) q ∙ mul-add n (2 ^ k) (2 ^ k)

  within_first : (h i : ℕ) → n * 2 ^ 0 ≡ n → i % n ≡ i → Precedes n h i → h % n < i
  within_first h i one own (zero, same, less) = let l = subst (λ (x : ℕ). h % x < i % x) one less in omega arith
  within_first h i one own (suc e, same, less) =
      let at : h % n ≡ i % n = subst (λ (x : ℕ). h % x ≡ i % x) one (same 0 (omega arith)) in
      let up = rises 0 (suc e) h (omega arith) in
      let first : h % (n * 2 ^ 0) ≡ h % n = ap (λ (x : ℕ). h % x) one in
      let le = mod-le i (n * 2 ^ suc e) in
      absurd (omega arith)

  covers_at : (h k : ℕ) (c : ClassView) → c.n ≡ n * 2 ^ k → (covers c h ≡ true) ↔ (h % (n * 2 ^ k) ≡ c.index)
  covers_at h k c is = (
    (λ of. subst (λ (x : ℕ). h % x ≡ c.index) is (eqb-true _ _ of)),
    (λ at. eq-eqb _ _ (subst (λ (x : ℕ). h % x ≡ c.index) (sym is) at)),
  )

  -- a hash of a class does not stand before the class
  pub not_before : (k : ℕ) (c : ClassView) → c.n ≡ n * 2 ^ k → (h : ℕ) → covers c h ≡ true → Precedes n h c.index → ⊥
  not_before k c is h of (e, same, lt) =
      let at : h % (n * 2 ^ k) ≡ c.index = (covers_at h k c is).0 of in
      elim (cases_lt k e) [
        | inl l ↦ let up = rises k e h (omega arith) in let less = mod-le c.index (n * 2 ^ e) in omega arith
        | inr le ↦ let same = ap (λ (x : ℕ). x % (n * 2 ^ e)) at in let d = down e k h le in omega arith
      ]

  -- the hashes that stand before the high half's first are those of the low half and before it
  low_step : (k i h : ℕ) → i < n * 2 ^ k → (Precedes n h i ⊎ (h % (n * 2 ^ (k + 1)) ≡ i)) ↔ Precedes n h (i + n * 2 ^ k)
  low_step k i h lt =
      let double : n * 2 ^ (k + 1) ≡ n * 2 ^ k + n * 2 ^ k = doubles k in
      let high : (i + n * 2 ^ k) % (n * 2 ^ (k + 1)) ≡ i + n * 2 ^ k = mod-eq_of_lt (omega arith) in
      let own : i % (n * 2 ^ k) ≡ i = mod-eq_of_lt lt in (
        (λ s. elim s [
          | inl (e, same, less) ↦ elim (cases_lt k e) [
            | inl l ↦ let up = rises k e h (omega arith) in let le = mod-le i (n * 2 ^ e) in let at = same k l in
                absurd (omega arith)
            | inr le ↦ (
              e,
              (λ j l. same j l ∙ sym (above j k i (omega arith))),
              subst (λ (x : ℕ). h % (n * 2 ^ e) < x)
                  (sym (above e k i le)) less,
            )
          ]
          | inr at ↦ (
            k + 1,
            (λ j l. sym (down j (k + 1) h (omega arith)) ∙ ap (λ (x : ℕ). x % (n * 2 ^ j)) at
                ∙ sym (above j k i (omega arith))),
            omega arith,
          )
        ]),
        (λ p. let (e, same, less) = p in elim (cases_lt k e) [
          | inl l ↦
              let low : h % (n * 2 ^ k) ≡ i = same k l ∙ above k k i (omega arith) ∙ own in
              let up = rises (k + 1) e h (omega arith) in
              let le = mod-le (i + n * 2 ^ k) (n * 2 ^ e) in
              inr (remainder_is (n * 2 ^ k) (h % (n * 2 ^ (k + 1))) i (down k (k + 1) h (omega arith) ∙ low)
              (omega arith) lt)
          | inr le ↦ inl (
            e,
            (λ j l. same j l ∙ above j k i (omega arith)),
            subst (λ (x : ℕ). h % (n * 2 ^ e) < x)
                (above e k i le) less,
          )
        ]),
      )

  -- a low half is followed by the high half
  pub IsFirstAfter-low : (k : ℕ) (c next : ClassView) → c.n ≡ n * 2 ^ (k + 1) → c.index < n * 2 ^ k →
      next.index ≡ c.index + n * 2 ^ k → IsFirstAfter n c next
  IsFirstAfter-low k c next is lt next_is hash =
      let step = low_step k c.index hash lt in
      let at : (covers c hash ≡ true) ↔ (hash % (n * 2 ^ (k + 1)) ≡ c.index) = covers_at hash (k + 1) c is in (
        (λ s. subst (Precedes n hash) (sym next_is) (step.0 (elim s [ inl p ↦ inl p | inr of ↦ inr (at.0 of) ]))),
        (λ p. elim (step.1 (subst (Precedes n hash) next_is p)) [ inl q ↦ inl q | inr of ↦ inr (at.1 of) ]),
      )

  -- who has passed a high half has passed what was halved
  pub passed_whole : (k : ℕ) (p c : ClassView) → p.n ≡ n * 2 ^ k → p.index < p.n → c.n ≡ 2 * p.n →
      c.index ≡ p.index + p.n → (hash : ℕ)
      → HasPassed n c hash ↔ HasPassed n p hash
  passed_whole k p c p_is lt n_is index_is hash =
      let double : 2 * p.n ≡ n * 2 ^ (k + 1) = (let d = doubles k in omega arith) in
      let low : ClassView = record { n = 2 * p.n; index = p.index } in
      let next : IsFirstAfter n low c = IsFirstAfter-low k low c double (omega arith) (omega arith) in
      let halves = covers-halves p.n p.index hash lt in
      let either : covers p hash ≡ (covers low hash || covers c hash) = halves
      ∙ ap (λ (x : ClassView). covers low hash || covers x hash)
      (sym (class_is c (2 * p.n) (p.index + p.n) n_is index_is)) in (
        (λ s. elim s [
          | inl q ↦ elim
              ((next hash).1 q) [ inl r ↦ inl r | inr of ↦ inr (either ∙ ap (λ (b : Bool). b || covers c hash) of) ]
          | inr of ↦ inr (either ∙ or_right _ _ of)
        ]),
        (λ s. elim s [
          | inl q ↦ inl ((next hash).0 (inl q))
          | inr of ↦ elim (either_of _ _ (sym either ∙ of)) [ inl a ↦ inl ((next hash).0 (inr a)) | inr b ↦ inr b ]
        ]),
      )

  -- the opening class at i is followed by that at i + 1, and the last by none
  within : (h i : ℕ) → i < n → Precedes n h i ↔ (h % n < i)
  within h i lt =
      let one : n * 2 ^ 0 ≡ n = omega arith in
      let own : i % n ≡ i = mod-eq_of_lt lt in (
        (λ p. within_first h i one own p),
        (λ less. (0, (λ j l. absurd (omega arith)), subst (λ (x : ℕ). h % x < i % x) (sym one) (omega arith))),
      )

  passed_opening : (c : ClassView) (h : ℕ) → c.n ≡ n → c.index < n → HasPassed n c h ↔ (h % n < c.index + 1)
  passed_opening c h is lt = (
    (λ s. elim s [
      | inl p ↦ (let l = (within h c.index lt).0 p in omega arith)
      | inr of ↦ (let at : h % n ≡ c.index = subst (λ (x : ℕ). h % x ≡ c.index) is (eqb-true _ _ of) in omega arith)
    ]),
    (λ less. elim (cases_lt (h % n) c.index) [
      | inl l ↦ inl ((within h c.index lt).1 l)
      | inr ge ↦ inr (eq-eqb _ _ (subst (λ (x : ℕ). h % x ≡ c.index) (sym is) (omega arith)))
    ]),
  )

  -- an opening class is followed by the next one, and the last by none
  pub IsFirstAfter-opening : (c next : ClassView) → c.n ≡ n → c.index + 1 < n → next.index ≡ c.index + 1 →
      IsFirstAfter n c next
  IsFirstAfter-opening c next is lt next_is hash =
      let passed = passed_opening c hash is (omega arith) in
      let first : Precedes n hash (c.index + 1) ↔ (hash % n < c.index + 1) = within hash (c.index + 1) lt in (
        (λ s. subst (Precedes n hash) (sym next_is) (first.1 (passed.0 s))),
        (λ p. passed.1 (first.0 (subst (Precedes n hash) next_is p))),
      )

  pub IsLastInWalk-opening : (c : ClassView) → c.n ≡ n → c.index + 1 ≡ n → IsLastInWalk n c
  IsLastInWalk-opening c is last hash = (passed_opening c hash is (omega arith)).1 (let l : hash % n < n =
      mod-lt hash (omega arith) in omega arith)

half_size : (m : ℕ) → IsTableSize m → m ≡ 2 * (m / 2) → IsTableSize (m / 2)
half_size m (zero, le, is) even = absurd (omega arith)
half_size m (suc e, le, is) even = (e, omega arith, let p = pow-add 2 e 1 in omega arith)

by_exponent : (n m : ℕ) → IsTableSize m → m ≢ n → (k : ℕ) × (m ≡ n * 2 ^ k) → (k : ℕ) × (m / 2 ≡ n * 2 ^ k)
    × (m ≡ 2 * (m / 2)) × IsTableSize (m / 2)
by_exponent n m size differ (zero, is) = absurd (differ (let one : n * 2 ^ 0 ≡ n = omega arith in is ∙ one))
by_exponent n m size differ (suc k, is) =
    let twice : n * 2 ^ suc k ≡ n * 2 ^ k + n * 2 ^ k = ap (λ (x : ℕ). n * 2 ^ x) (sym (add-one k)) ∙ doubles n k in
    let half : m / 2 ≡ n * 2 ^ k = omega arith in
    (k, half, omega arith, half_size m size (omega arith))

-- the half of a table's size that is greater than another
pub halved : (n m : ℕ) → IsTableSize n → IsTableSize m → n ≤ m → m ≢ n → (k : ℕ) × (m / 2 ≡ n * 2 ^ k)
    × (m ≡ 2 * (m / 2)) × IsTableSize (m / 2)
halved n m n_size m_size le differ = by_exponent n m m_size differ (doubled n m n_size m_size le)

pub at_least : (n m : ℕ) → 0 < m → n ≤ n * m
at_least n zero lt = absurd (omega arith)
at_least n (suc m) lt = let e : n * suc m ≡ n * m + n = omega arith in omega arith

-- a class that is a low half is followed by the high half
pub after_low : (n : ℕ) (c next : ClassView) → IsTableSize n → IsClass c → n ≤ c.n → c.n ≢ n → c.index < c.n / 2 →
    next.index ≡ c.index + c.n / 2
    → IsFirstAfter n c next
after_low n c next size class le differ low next_is =
    let (k, half, even, _) = halved n c.n size class.0 le differ in
    let double = doubles n k in
    IsFirstAfter-low n k c next (omega arith) (omega arith) (omega arith)

-- who has passed a class that is a high half has passed what was halved
pub after_high : (n : ℕ) (p c : ClassView) → IsTableSize n → IsClass c → n ≤ c.n → c.n ≢ n → c.n / 2 ≤ c.index →
    p.n ≡ c.n / 2 → p.index ≡ c.index - c.n / 2
    → (hash : ℕ) → HasPassed n c hash ↔ HasPassed n p hash
after_high n p c size class le differ high n_is index_is =
    let (k, half, even, _) = halved n c.n size class.0 le differ in
    let lt = class.1 in
    passed_whole n k p c (n_is ∙ half) (omega arith) (omega arith) (omega arith)

pub IsFirstAfter-high : (n : ℕ) (p c : ClassView) → ((hash : ℕ) → HasPassed n c hash ↔ HasPassed n p hash) →
    (next : Option ClassView)
    → IfSome next (IsFirstAfter n p) → IfSome next (IsFirstAfter n c)
IsFirstAfter-high n p c same (Some next) first =
    λ hash. ((λ s. (first hash).0 ((same hash).0 s)), (λ q. (same hash).1 ((first hash).1 q)))
IsFirstAfter-high n p c same None first = first

pub IsLastInWalk-high : (n : ℕ) (p c : ClassView) → ((hash : ℕ) → HasPassed n c hash ↔ HasPassed n p hash) →
    (next : Option ClassView)
    → IfNone next (IsLastInWalk n p) → IfNone next (IsLastInWalk n c)
IsLastInWalk-high n p c same (Some next) last = last
IsLastInWalk-high n p c same None last = λ hash. (same hash).1 (last hash)
