-- Walks that begin and end at indexes of a table.
use Rattle.std.proofs.Common.{◌≡◌, ◌≢◌, ℕ, zero, suc, ◌+◌, ◌*◌, ◌%◌, ◌^◌, ◌<◌, ◌≤◌, ◌⊎◌, inl, inr, true}
use Rattle.std.proofs.Common.{◌==◌, ◌&&◌, ◌++◌, List, [], ◌∷◌, Bool, false, cond, nat_lt, Option, Some, None, IfSome, IfNone}
use Rattle.std.proofs.Common.{All, IsSomeAnd, sym, ap, subst, refl, ◌∙◌, arith, append_assoc}
use Rattle.std.proofs.Math.Nat.{mod-mod_of_dvd, mod-lt, mod-le, mod-eq_of_lt, dvd-mul_left, mul_comm}
use Rattle.std.proofs.lemmas.Bool.{cases_lt, eqb-true, eq-eqb, lt-ltb, le-ltb, false≢true}
use Rattle.std.proofs.lemmas.Nat.{pow-add, pow_pos}
use Rattle.std.specs.Int.{◌∣◌}
use Rattle.hashkeys.specs.Classes.{ClassView, IsClass, IsTableSize, covers}
use Rattle.bin_layout.specs.Walks.{Precedes, HasPassed, IsFirstAfter, IsLastInWalk, IsWalk, IsWalkTo}
use Rattle.bin_layout.proofs.Cursor.{IsWalkTo-next, IsWalk-last}
use Rattle.bin_layout.proofs.Walks.{doubled, at_least}
use Rattle.part_walks.specs.Parts.{HasComeTo, HasNotPassed, HasWalked, IsFirstOf, IsPart, IsWalkFrom, PartView, class_at}
use Rattle.part_walks.specs.Parts.{ends_at, is_at_end}

below_power : (t : ℕ) → t < 2 ^ t
below_power zero = let p = pow_pos 0 in omega (arith, p)
below_power (suc t) = let p = below_power t in let q = pow-add 2 t 1 in
    let r : 2 ^ suc t ≡ 2 ^ (t + 1) = ap (λ (x : ℕ). 2 ^ x) (omega arith) in omega (arith, p, q, r)

module _ (n : ℕ) where
  one_size : n * 2 ^ 0 ≡ n
  one_size = omega arith

  size_more : (j : ℕ) → n ≤ n * 2 ^ j
  size_more j = at_least n (2 ^ j) (pow_pos j)

  doubles_size : (e : ℕ) → n * 2 ^ suc e ≡ 2 * (n * 2 ^ e)
  doubles_size e =
      let r : 2 ^ suc e ≡ 2 ^ (e + 1) = ap (λ (x : ℕ). 2 ^ x) (omega arith) in
      let q = pow-add 2 e 1 in
      let s : 2 ^ suc e ≡ 2 ^ e * 2 = r ∙ q in
      ap (λ (x : ℕ). n * x) s ∙ (let y = mul_comm (n * 2 ^ e) 2 in let z : n * (2 ^ e * 2) ≡ (n * 2 ^ e) * 2 = omega arith in z ∙ y)

  rises_one : (e t : ℕ) → t % (n * 2 ^ e) ≤ t % (n * 2 ^ suc e)
  rises_one e t =
      let d : (n * 2 ^ e) ∣ (n * 2 ^ suc e) = subst (λ (x : ℕ). (n * 2 ^ e) ∣ x) (sym (doubles_size e))
      (dvd-mul_left (n * 2 ^ e) 2) in
      subst (λ (x : ℕ). x ≤ t % (n * 2 ^ suc e)) (mod-mod_of_dvd (n * 2 ^ e) t d)
      (mod-le (t % (n * 2 ^ suc e)) (n * 2 ^ e))

  -- who stands before a hash leaves no greater remainder
  precedes_mod : (h g : ℕ) → Precedes n h g → h % n ≤ g % n
  precedes_mod h g (zero, same, less) = let l = subst (λ (x : ℕ). h % x < g % x) one_size less in omega arith
  precedes_mod h g (suc e, same, less) =
      let at : h % n ≡ g % n = subst (λ (x : ℕ). h % x ≡ g % x) one_size (same 0 (omega arith)) in omega arith

  passed_mod : (k h : ℕ) (c : ClassView) → c.n ≡ n * 2 ^ k → HasPassed n c h → h % n ≤ c.index % n
  passed_mod k h c is (inl p) = precedes_mod h c.index p
  passed_mod k h c is (inr of) =
      let at : h % (n * 2 ^ k) ≡ c.index = subst (λ (x : ℕ). h % x ≡ c.index) is (eqb-true _ _ of) in
      let d : n ∣ (n * 2 ^ k) = subst (λ (x : ℕ). n ∣ x) (mul_comm (2 ^ k) n) (dvd-mul_left n (2 ^ k)) in
      let m : h % (n * 2 ^ k) % n ≡ h % n = mod-mod_of_dvd n h d in
      let s = ap (λ (x : ℕ). x % n) at in omega (arith, m, s)

  -- up to a size a hash leaves the same remainder, which is below n, or that stands before it
  up_to : (h t : ℕ) → h < n → t % n ≡ h → (e : ℕ) → ((j : ℕ) → j < suc e → t % (n * 2 ^ j) ≡ h) ⊎ Precedes n h t
  up_to h t low at zero =
      inl (λ j l. let z : j ≡ 0 = omega arith in
      subst (λ (x : ℕ). t % (n * 2 ^ x) ≡ h) (sym z) (subst (λ (x : ℕ). t % x ≡ h) (sym one_size) at))
  up_to h t low at (suc e) = elim (up_to h t low at e) [
    | inr p ↦ inr p
    | inl all ↦
        let own : (j : ℕ) → h % (n * 2 ^ j) ≡ h = λ j. mod-eq_of_lt (let s = size_more j in omega arith) in
        elim (cases_lt h (t % (n * 2 ^ suc e))) [
          | inl lt ↦ inr (suc e, (λ j l. own j ∙ sym (all j l)), (let o = own (suc e) in omega arith))
          | inr ge ↦ inl (λ j l. elim (cases_lt j (suc e)) [
            | inl less ↦ all j less
            | inr more ↦
                let is : j ≡ suc e = omega arith in
                let up = rises_one e t in
                let was = all e (omega arith) in
                let now : t % (n * 2 ^ suc e) ≡ h = omega arith in
                subst (λ (x : ℕ). t % (n * 2 ^ x) ≡ h) (sym is) now
          ])
        ]
  ]

  -- a hash below n stands before each other with its remainder
  precedes_own : (h t : ℕ) → h < n → t % n ≡ h → t ≢ h → Precedes n h t
  precedes_own h t low at differ = elim (up_to h t low at t) [
    | inr p ↦ p
    | inl all ↦
        let power = below_power t in
        let wide : 2 ^ t ≤ n * 2 ^ t = subst (λ (x : ℕ). 2 ^ t ≤ x) (mul_comm (2 ^ t) n) (at_least (2 ^ t) n (omega arith)) in
        let is : t % (n * 2 ^ t) ≡ t = mod-eq_of_lt (omega arith) in
        absurd (differ (sym is ∙ all t (omega arith)))
  ]

  precedes_greater : (h t : ℕ) → h < n → h < t % n → Precedes n h t
  precedes_greater h t low lt =
      let own : h % n ≡ h = mod-eq_of_lt low in
      (0, (λ j l. absurd (omega arith)), subst (λ (x : ℕ). h % x < t % x) (sym one_size) (omega arith))

  -- from a class before an index a walk goes on to one that is before it still, or to the class at the index
  goes_on : (k : ℕ) (class : ClassView) (index : ℕ) → class.n ≡ n * 2 ^ k → 0 < n → index ≤ n → class.index % n < index →
      (then : Option ClassView) → IfSome then (λ c. IsFirstAfter n class c) → IfNone then (IsLastInWalk n class) →
      HasNotPassed n index then
  goes_on k class index is size most before None first last = elim (cases_lt index n) [
    | inr ge ↦ ge
    | inl lt ↦ let p = passed_mod k index class is (last index) in let own : index % n ≡ index = mod-eq_of_lt lt in
        absurd (omega arith)
  ]
  goes_on k class index is size most before (Some c) first last = elim (cases_lt (c.index % n) index) [
    | inl lt ↦ inl lt
    | inr ge ↦
        let low : index < n = let m : c.index % n < n = mod-lt c.index size in omega arith in
        let own : index % n ≡ index = mod-eq_of_lt low in
        let never : Precedes n index c.index → ⊥ = λ p.
        let q = passed_mod k index class is ((first index).1 p) in omega arith in
        elim (cases_lt index (c.index % n)) [
          | inl more ↦ absurd (never (precedes_greater index c.index low more))
          | inr le ↦ elim (cases_lt index c.index) [
            | inl g ↦ absurd (never (precedes_own index c.index low (omega arith) (λ e. omega arith)))
            | inr l ↦ let m = mod-le c.index n in inr (omega arith, low)
          ]
        ]
  ]

HasNotPassed-next : (n : ℕ) (class : ClassView) (index : ℕ) → IsTableSize n → IsClass class → n ≤ class.n →
    index ≤ n → class.index % n < index → (then : Option ClassView) → IfSome then (λ c. IsFirstAfter n class c) →
    IfNone then (IsLastInWalk n class) → HasNotPassed n index then
HasNotPassed-next n class index size own least most before then first last =
    let (k, is) = doubled n class.n size own.0 least in
    let (e, _, two) = size in
    let some : 0 < n = let p = pow_pos e in omega arith in
    goes_on n k class index is some most before then first last

-- a class that is next, and wider than the bin that it lies in, has no hash that the bin has not
pub covers-wider : (class next : ClassView) (hash : ℕ) → IsClass class → IsClass next → class.n ≤ next.n →
    covers class next.index ≡ true → covers next hash ≡ true → covers class hash ≡ true
covers-wider class next hash own other wide at of =
    let (k, is) = doubled class.n next.n own.0 other.0 wide in
    let d : class.n ∣ next.n = subst (λ (x : ℕ). class.n ∣ x) (mul_comm (2 ^ k) class.n ∙ sym is)
    (dvd-mul_left class.n (2 ^ k)) in
    let there : hash % next.n ≡ next.index = eqb-true _ _ of in
    let here : next.index % class.n ≡ class.index = eqb-true _ _ at in
    eq-eqb _ _ (sym (mod-mod_of_dvd class.n hash d) ∙ ap (λ (x : ℕ). x % class.n) there ∙ here)

pub covers-own : (class : ClassView) → IsClass class → covers class class.index ≡ true
covers-own class own = eq-eqb _ _ (mod-eq_of_lt own.1)

some_and : {R : Type 0} (P : R → Type 0) (o : Option R) → IsSomeAnd o P → (r : R) × (o ≡ Some r) × P r
some_and P None h = absurd h
some_and P (Some r) h = (r, refl, h)

-- a walk that has come to a class has come to each with its index
IsWalkTo-index : (n : ℕ) (next other : ClassView) (classes : List ClassView) → next.index ≡ other.index →
    IsWalkTo n classes next → IsWalkTo n classes other
IsWalkTo-index n next other classes same walk = record {
  each_class = walk.each_class;
  each_hash = λ h. elim (walk.each_hash h) [
    | inl p ↦ inl (subst (Precedes n h) same p.0, p.1)
    | inr q ↦ inr ((λ b. q.0 (subst (Precedes n h) (sym same) b)), q.1)
  ];
  in_order = walk.in_order;
  before = subst (λ (i : ℕ). All (λ c. Precedes n c.index i) classes) same walk.before;
  least = walk.least;
}

HasComeTo-at : (n hi : ℕ) (next : ClassView) (classes : List ClassView) → hi < n → next.index ≡ hi →
    IsWalkTo n classes next → HasComeTo n (class_at n hi) classes
HasComeTo-at n hi next classes lt same walk =
    let here : ClassView = record { n = n; index = hi } in
    let at : Some here ≡ class_at n hi = ap (λ (b : Bool). cond b (Some here) None) (sym (lt-ltb hi n lt)) in
    subst (λ (o : Option ClassView). HasComeTo n o classes) at (IsWalkTo-index n next here classes same walk)

HasComeTo-end : (n hi : ℕ) (classes : List ClassView) → n ≤ hi → IsWalk n classes → HasComeTo n (class_at n hi) classes
HasComeTo-end n hi classes le walk =
    let here : ClassView = record { n = n; index = hi } in
    let at : None ≡ class_at n hi = ap (λ (b : Bool). cond b (Some here) None) (sym (le-ltb hi n le)) in
    subst (λ (o : Option ClassView). HasComeTo n o classes) at walk

both : (a b : Bool) → a ≡ true → b ≡ true → (a && b) ≡ false → ⊥
both true true e f g = false≢true (sym g)
both true false e f g = false≢true f
both false b e f g = false≢true e

-- a walk that is not at its end is before it
before-end : (n hi : ℕ) (next : ClassView) → HasNotPassed n hi (Some next) → ends_at n hi (Some next) ≡ false →
    next.index % n < hi
before-end n hi next (inl lt) more = lt
before-end n hi next (inr (same, lt)) more =
    absurd (both (nat_lt hi n) (next.index == hi) (lt-ltb hi n lt) (eq-eqb next.index hi same) more)

-- a walk at its end has gone over its part
pub IsWalkFrom-end : (w : PartView) (next : ClassView) → w.next ≡ Some next → w.hi < w.n → next.index ≡ w.hi →
    (classes : List ClassView) → HasWalked w classes → IsWalkFrom w.n w.lo w.hi classes
IsWalkFrom-end w next is lt same classes walked = λ before come.
    HasComeTo-at w.n w.hi next (before ++ classes) lt same
    (subst (λ (o : Option ClassView). HasComeTo w.n o (before ++ classes)) is (walked before come))

HasComeTo-past : (n : ℕ) (classes : List ClassView) (next class : ClassView) (then : Option ClassView) → IsTableSize n →
    n ≤ class.n → IsFirstOf next class → IfSome then (λ c. IsFirstAfter n class c) → IfNone then (IsLastInWalk n class) →
    IsWalkTo n classes next → HasComeTo n then (classes ++ class ∷ [])
HasComeTo-past n classes next class (Some c) size least first after_it last walk =
    IsWalkTo-next n classes next class size first.next_is first.class_is least walk first.covers first.narrow c after_it
HasComeTo-past n classes next class None size least first after_it last walk =
    IsWalk-last n classes next class size first.next_is first.class_is least walk first.covers first.narrow last

module _ (w : PartView) (class : ClassView) (then : Option ClassView) (own : IsPart w) (more : is_at_end w ≡ false)
    (first : IsSomeAnd w.next (λ next. IsFirstOf next class))
    (after_it : IfSome then (λ c. IsFirstAfter w.n class c)) (last : IfNone then (IsLastInWalk w.n class)) where
  the_next : (next : ClassView) × (w.next ≡ Some next) × IsFirstOf next class
  the_next = some_and (λ next. IsFirstOf next class) w.next first

  least_next : (next : ClassView) → w.next ≡ Some next → w.n ≤ next.n
  least_next next is = subst (λ (o : Option ClassView). IfSome o (λ c. w.n ≤ c.n)) is own.least

  pub IsPart-past : IfSome then (λ c. w.n ≤ c.n) → IsPart (record w { next = then })
  IsPart-past least =
      let (next, is, at) = the_next in
      let low = least_next next is in
      let narrow = at.narrow in
      let room = at.next_is.1 in
      let here : next.index % class.n ≡ class.index = eqb-true _ _ at.covers in
      let same : next.index % class.n ≡ next.index = mod-eq_of_lt (omega arith) in
      let left : HasNotPassed w.n w.hi (Some next) = subst (λ (o : Option ClassView). HasNotPassed w.n w.hi o) is own.left in
      let before = before-end w.n w.hi next left
      (subst (λ (o : Option ClassView). ends_at w.n w.hi o ≡ false) is more) in
      let index : class.index % w.n < w.hi = subst (λ (x : ℕ). x % w.n < w.hi) (sym same ∙ here) before in
      record {
        size = own.size;
        within = own.within;
        least = least;
        left = HasNotPassed-next w.n class w.hi own.size at.class_is (omega arith) own.within index then after_it last;
      }

  pub HasWalked-past : (classes : List ClassView) → HasWalked w classes →
      HasWalked (record w { next = then }) (classes ++ class ∷ [])
  HasWalked-past classes walked = λ before come.
      let (next, is, at) = the_next in
      let low = least_next next is in
      let narrow = at.narrow in
      let there : IsWalkTo w.n (before ++ classes) next
      = subst (λ (o : Option ClassView). HasComeTo w.n o (before ++ classes)) is (walked before come) in
      subst (λ (cs : List ClassView). HasComeTo w.n then cs) (append_assoc before classes (class ∷ []))
      (HasComeTo-past w.n (before ++ classes) next class then own.size (omega arith) at after_it last there)
