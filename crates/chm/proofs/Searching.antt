-- Where in walk order the class of a hash stands.
use Rattle.std.proofs.Common.{◌≡◌, ◌≢◌, ◌⊎◌, ◌↔◌, ℕ, zero, suc, ◌+◌, ◌-◌, ◌*◌, ◌%◌, ◌^◌, ◌<◌, ◌≤◌, inl}
use Rattle.std.proofs.Common.{inr, Bool, true, false, cond, List, [], ◌∷◌}
use Rattle.std.proofs.Common.{Bor, MatchOption, Option, None, Some, option_copied}
use Rattle.std.proofs.Common.{length, get_or, refl, sym, ap, subst, ◌∙◌, arith}
use Rattle.std.specs.Int.{◌∣◌}
use Rattle.std.proofs.Math.Nat.{mod-mod_of_dvd, mod-eq_of_lt, dvd-mul_left}
use Rattle.std.proofs.lemmas.Bool.{cases_lt, eqb-true, eq-eqb}
use Rattle.std.proofs.lemmas.List.{get_or-map, length-map}
use Rattle.std.proofs.lemmas.List.Sums.{sum_by-cons}
use Rattle.std.proofs.lemmas.Nat.{pow-add, pow_pos}
use Rattle.hashkeys.specs.Classes.{ClassView, IsTableSize, covers, covering}
use Rattle.bin_history.specs.Lawful.{BinView}
use Rattle.bin_layout.specs.BinsWithRoles.{classes_of_bins}
use Rattle.bin_layout.specs.Walks.{Precedes, Before, AreInOrder, HasPassed, IsWalk}
use Rattle.bin_layout.proofs.Walks.{at_least, doubled, not_before}

-- the remainder by a class's size, of the class's first hash
pub covers-own : (c : ClassView) → c.index < c.n → covers c c.index ≡ true
covers-own c lt = eq-eqb _ _ (mod-eq_of_lt lt)

module _ (n : ℕ) where
  -- the remainder by a size, of the remainder by a greater one
  down : (j k h : ℕ) → j ≤ k → h % (n * 2 ^ k) % (n * 2 ^ j) ≡ h % (n * 2 ^ j)
  down j k h le =
      let sum : j + (k - j) ≡ k = omega arith in
      let is : n * 2 ^ k ≡ 2 ^ (k - j) * (n * 2 ^ j) = (let p = pow-add 2 j (k - j) in
      let q : 2 ^ k ≡ 2 ^ j * 2 ^ (k - j) = ap (λ (x : ℕ). 2 ^ x) (sym sum) ∙ p in rw q (omega arith)) in
      mod-mod_of_dvd (n * 2 ^ j) h
      (subst (λ (x : ℕ). (n * 2 ^ j) ∣ x) (sym is) (dvd-mul_left (n * 2 ^ j) (2 ^ (k - j))))

  -- a smaller size is no greater
  pub grows : (j k : ℕ) → j ≤ k → n * 2 ^ j ≤ n * 2 ^ k
  grows j k le =
      let more = at_least (n * 2 ^ j) (2 ^ (k - j)) (pow_pos (k - j)) in
      let sum : j + (k - j) ≡ k = omega arith in
      let is : 2 ^ k ≡ 2 ^ j * 2 ^ (k - j) = ap (λ (x : ℕ). 2 ^ x) (sym sum) ∙ pow-add 2 j (k - j) in
      rw is (omega arith)

  Precedes-more : (a b c : ℕ) → Precedes n a b → Precedes n b c → Precedes n a c
  Precedes-more a b c (e, same, less) (f, then, lower) =
      elim (cases_lt e f) [
        | inl l ↦ (
          e,
          (λ j lt. same j lt ∙ then j (omega arith)),
          subst (λ (x : ℕ). a % (n * 2 ^ e) < x) (then e l) less,
        )
        | inr ge ↦ elim (cases_lt f e) [
          | inl l ↦ (
            f,
            (λ j lt. same j (omega arith) ∙ then j lt),
            subst (λ (x : ℕ). x < c % (n * 2 ^ f)) (sym (same f l)) lower,
          )
          | inr le ↦
              let is : f ≡ e = omega arith in
              let next : b % (n * 2 ^ e) < c % (n * 2 ^ e) =
              subst (λ (x : ℕ). b % (n * 2 ^ x) < c % (n * 2 ^ x)) is lower in
              (e, (λ j lt. same j lt ∙ then j (omega arith)), omega arith)
        ]
      ]

  -- a test of whether a hash has passed a class, by the least size at which their remainders differ, or the class's
  pub passed-by : (e k h : ℕ) (c : ClassView) → c.n ≡ n * 2 ^ k → e ≤ k → c.index < c.n →
      ((j : ℕ) → j < e → h % (n * 2 ^ j) ≡ c.index % (n * 2 ^ j)) →
      (c.n ≡ n * 2 ^ e) ⊎ (h % (n * 2 ^ e) ≢ c.index % (n * 2 ^ e)) →
      (h % (n * 2 ^ e) ≤ c.index % (n * 2 ^ e)) ↔ HasPassed n c h
  passed-by e k h c is le lt same last = (
    (λ low. elim (cases_lt (h % (n * 2 ^ e)) (c.index % (n * 2 ^ e))) [
      | inl l ↦ inl (e, same, l)
      | inr ge ↦ elim last [
        | inl whole ↦
            let own : c.index % (n * 2 ^ e) ≡ c.index =
            subst (λ (x : ℕ). c.index % x ≡ c.index) whole (mod-eq_of_lt lt) in
            let at : h % (n * 2 ^ e) ≡ c.index = omega arith in
            inr (eq-eqb _ _ (subst (λ (x : ℕ). h % x ≡ c.index) (sym whole) at))
        | inr differ ↦ absurd (differ (omega arith))
      ]
    ]),
    (λ passed. elim passed [
      | inl (f, equal, less) ↦ elim (cases_lt f e) [
        | inl l ↦ (let at = same f l in absurd (omega arith))
        | inr ge ↦ elim (cases_lt e f) [
          | inl l ↦ (let at = equal e l in omega arith)
          | inr down' ↦
              let is : f ≡ e = omega arith in
              let here : h % (n * 2 ^ e) < c.index % (n * 2 ^ e) =
              subst (λ (x : ℕ). h % (n * 2 ^ x) < c.index % (n * 2 ^ x)) is less in
              omega arith
        ]
      ]
      | inr of ↦
          let at : h % (n * 2 ^ k) ≡ c.index = subst (λ (x : ℕ). h % x ≡ c.index) is (eqb-true _ _ of) in
          let here : h % (n * 2 ^ e) ≡ c.index % (n * 2 ^ e) =
          sym (down e k h le) ∙ ap (λ (x : ℕ). x % (n * 2 ^ e)) at in
          omega arith
    ]),
  )

  -- who has passed a class stands before each class behind it
  Precedes-behind : (k : ℕ) (c d : ClassView) → c.n ≡ n * 2 ^ k → c.index < c.n → Before n c d →
      (covers c d.index ≡ true → ⊥) → (h : ℕ) → HasPassed n c h → Precedes n h d.index
  Precedes-behind k c d is lt before apart h passed =
      elim passed [
        | inl p ↦ Precedes-more h c.index d.index p before
        | inr of ↦
            let (e, same, less) = before in
            let at : h % (n * 2 ^ k) ≡ c.index = subst (λ (x : ℕ). h % x ≡ c.index) is (eqb-true _ _ of) in
            let own : c.index % (n * 2 ^ k) ≡ c.index =
            subst (λ (x : ℕ). c.index % x ≡ c.index) is (mod-eq_of_lt lt) in
            let here : (j : ℕ) → j ≤ k → h % (n * 2 ^ j) ≡ c.index % (n * 2 ^ j) =
            λ j le. sym (down j k h le) ∙ ap (λ (x : ℕ). x % (n * 2 ^ j)) at in
            elim (cases_lt k e) [
              | inl l ↦ absurd (apart (eq-eqb _ _ (subst (λ (x : ℕ). d.index % x ≡ c.index) (sym is)
                  (sym (same k l) ∙ own))))
              | inr le ↦ (
                e,
                (λ j l. here j (omega arith) ∙ same j l),
                subst (λ (x : ℕ). x < d.index % (n * 2 ^ e)) (sym (here e le)) less,
              )
            ]
      ]

  Before-at : (cs : List ClassView) → AreInOrder n cs → (i j : ℕ) (d : ClassView) → i < j → j < length cs →
      Before n (get_or cs i d) (get_or cs j d)
  Before-at [] order i j d lt in' = absurd (omega arith)
  Before-at (c ∷ cs) order i zero d lt in' = absurd (omega arith)
  Before-at (c ∷ cs) order zero (suc j) d lt in' = order.0 j d (omega arith)
  Before-at (c ∷ cs) order (suc i) (suc j) d lt in' = Before-at cs order.1 i j d (omega arith) (omega arith)

  abbrev weight : ClassView → ℕ → ℕ
  weight c h = cond (covers c h) 1 0

  covering-one : (cs : List ClassView) (i h : ℕ) (d : ClassView) → i < length cs → covers (get_or cs i d) h ≡ true →
      1 ≤ covering cs h
  covering-one [] i h d lt of = absurd (omega arith)
  covering-one (c ∷ cs) zero h d lt of =
      let all = sum_by-cons (λ (x : ClassView). weight x h) c cs in
      let here : weight c h ≡ 1 = ap (λ (b : Bool). cond b 1 0) of in omega arith
  covering-one (c ∷ cs) (suc i) h d lt of =
      let all = sum_by-cons (λ (x : ClassView). weight x h) c cs in
      let rest = covering-one cs i h d (omega arith) of in omega arith

  covering-two : (cs : List ClassView) (i j h : ℕ) (d : ClassView) → i < j → j < length cs →
      covers (get_or cs i d) h ≡ true → covers (get_or cs j d) h ≡ true → 2 ≤ covering cs h
  covering-two [] i j h d lt in' a b = absurd (omega arith)
  covering-two (c ∷ cs) i zero h d lt in' a b = absurd (omega arith)
  covering-two (c ∷ cs) zero (suc j) h d lt in' a b =
      let all = sum_by-cons (λ (x : ClassView). weight x h) c cs in
      let here : weight c h ≡ 1 = ap (λ (b : Bool). cond b 1 0) a in
      let rest = covering-one cs j h d (omega arith) b in omega arith
  covering-two (c ∷ cs) (suc i) (suc j) h d lt in' a b =
      let all = sum_by-cons (λ (x : ClassView). weight x h) c cs in
      let rest = covering-two cs i j h d (omega arith) (omega arith) a b in omega arith

  -- a hash that some class has is of the class at some place
  covered-at : (cs : List ClassView) (h : ℕ) (d : ClassView) → covering cs h ≡ 1 →
      (i : ℕ) × (i < length cs) × (covers (get_or cs i d) h ≡ true)
  covered-at [] h d one = absurd (omega arith)
  covered-at (c ∷ cs) h d one = go (covered-at cs h d) (covers c h) refl where
    go : (covering cs h ≡ 1 → (i : ℕ) × (i < length cs) × (covers (get_or cs i d) h ≡ true)) → (b : Bool) →
        covers c h ≡ b → (i : ℕ) × (i < length (c ∷ cs)) × (covers (get_or (c ∷ cs) i d) h ≡ true)
    go rest true is = (0, omega arith, is)
    go rest false is =
        let all = sum_by-cons (λ (x : ClassView). weight x h) c cs in
        let here : weight c h ≡ 0 = ap (λ (b : Bool). cond b 1 0) is in
        let (i, lt, of) = rest (omega arith) in
        (suc i, omega arith, of)

module _ (n : ℕ) (size : IsTableSize n) (classes : List ClassView) (walk : IsWalk n classes) (h : ℕ) where
  -- who has passed the class at one place stands before the class at each later one
  pub passed-later : (i j : ℕ) (d : ClassView) → i < j → j < length classes → HasPassed n (get_or classes i d) h →
      Precedes n h (get_or classes j d).index
  passed-later i j d lt in' passed =
      let c = get_or classes i d in
      let e = get_or classes j d in
      let its = walk.each_class i d (omega arith) in
      let (k, is) = doubled n c.n size its.0 (walk.least i d (omega arith)) in
      let once = walk.each_hash e.index in
      let own : covers e e.index ≡ true = covers-own e (walk.each_class j d in').1 in
      Precedes-behind n k c e is its.1 (Before-at n classes walk.in_order i j d lt in')
      (λ of. let two = covering-two n classes i j e.index d lt in' of own in omega arith) h passed

  -- the first class that a hash has passed is the hash's own
  pub first-passed : (i : ℕ) (d : ClassView) → i ≤ length classes →
      ((j : ℕ) → j < i → HasPassed n (get_or classes j d) h → ⊥) →
      ((j : ℕ) → i ≤ j → j < length classes → HasPassed n (get_or classes j d) h) →
      (i < length classes) × (covers (get_or classes i d) h ≡ true)
  first-passed i d le before behind =
      let (j, in', of) = covered-at n classes h d (walk.each_hash h) in
      elim (cases_lt j i) [
        | inl l ↦ absurd (before j l (inr of))
        | inr ge ↦ elim (cases_lt i j) [
          | inl l ↦
              let c = get_or classes j d in
              let its = walk.each_class j d in' in
              let (k, is) = doubled n c.n size its.0 (walk.least j d in') in
              absurd (not_before n k c is h of
              (passed-later i j d l in' (behind i (omega arith) (omega arith))))
          | inr ge' ↦ let same : j ≡ i = omega arith in
              (omega arith, subst (λ (x : ℕ). covers (get_or classes x d) h ≡ true) same of)
        ]
      ]

module _ {K V F : Type 0} (n : ℕ) (size : IsTableSize n) (bins : List (BinView K V F))
    (walk : IsWalk n (classes_of_bins bins)) (h : ℕ) where
  class_at : (i : ℕ) (d : BinView K V F) → i < length bins →
      get_or (classes_of_bins bins) i d.class ≡ (get_or bins i d).class
  class_at i d lt = get_or-map (λ (b : BinView K V F). b.class) bins i d d.class lt

  as_many : length (classes_of_bins bins) ≡ length bins
  as_many = length-map bins (λ (b : BinView K V F). b.class)

  pub least_at : (i : ℕ) (d : BinView K V F) → i < length bins → n ≤ (get_or bins i d).class.n
  least_at i d lt = let many = as_many in
      subst (λ (c : ClassView). n ≤ c.n) (class_at i d lt) (walk.least i d.class (omega arith))

  -- who has passed the bin at a place has passed each later one
  pub from_place : (middle : ℕ) (d : BinView K V F) → middle < length bins →
      HasPassed n (get_or bins middle d).class h →
      (j : ℕ) → middle ≤ j → j < length bins → HasPassed n (get_or bins j d).class h
  from_place middle d in' passed j le lt = elim (cases_lt middle j) [
    | inl l ↦
        let many = as_many in
        let later = passed-later n size (classes_of_bins bins) walk h middle j d.class l (omega arith)
        (subst (λ (c : ClassView). HasPassed n c h) (sym (class_at middle d in')) passed) in
        inl (subst (λ (c : ClassView). Precedes n h c.index) (class_at j d lt) later)
    | inr ge ↦ let is : middle ≡ j = omega arith in
        subst (λ (x : ℕ). HasPassed n (get_or bins x d).class h) is passed
  ]

  -- who has not passed it has passed none before
  pub up_to_place : (middle : ℕ) (d : BinView K V F) → middle < length bins →
      (HasPassed n (get_or bins middle d).class h → ⊥) →
      (j : ℕ) → j < middle + 1 → HasPassed n (get_or bins j d).class h → ⊥
  up_to_place middle d in' fails j lt passed = fails (from_place j d (omega arith) passed middle (omega arith) in')

  -- the first bin that a hash has passed is of a class that has the hash
  pub first-bin : (i : ℕ) (d : BinView K V F) → i ≤ length bins →
      ((j : ℕ) → j < i → HasPassed n (get_or bins j d).class h → ⊥) →
      ((j : ℕ) → i ≤ j → j < length bins → HasPassed n (get_or bins j d).class h) →
      (i < length bins) × (covers (get_or bins i d).class h ≡ true)
  first-bin i d le before behind =
      let many = as_many in
      let (lt, of) = first-passed n size (classes_of_bins bins) walk h i d.class (omega arith)
      (λ j l passed. before j l (subst (λ (c : ClassView). HasPassed n c h) (class_at j d (omega arith)) passed))
      (λ j ge l. subst (λ (c : ClassView). HasPassed n c h) (sym (class_at j d (omega arith)))
      (behind j ge (omega arith))) in
      let in' : i < length bins = omega arith in
      (in', subst (λ (c : ClassView). covers c h ≡ true) (class_at i d in') of)

-- a walk has some bin
pub some_bin : {K V F : Type 0} (n : ℕ) (bins : List (BinView K V F)) → IsWalk n (classes_of_bins bins) → BinView K V F
some_bin n [] walk = absurd (let none : ◌≡◌ {A = ℕ} 0 1 = walk.each_hash 0 in omega arith)
some_bin n (b ∷ bs) walk = b

-- a value as a reference, by a copy of it
pub told : {V : Type 0} (result : Option (Bor V)) (value : Option V) → option_copied result ≡ value →
    MatchOption result (value ≡ None) (λ v. value ≡ Some v.now)
told None value is = sym is
told (Some v) value is = sym is
