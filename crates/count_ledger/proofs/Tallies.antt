-- Some numbers are hit by things that have no number in common: where they hit so many in all as there are numbers,
-- each number is hit once.
use Rattle.std.proofs.Common.{◌≡◌, ℕ, zero, suc, ◌+◌, ◌<◌, ◌≤◌, ◌==◌, ◌&&◌, Bool, true, false, cond, List, [], ◌∷◌}
use Rattle.std.proofs.Common.{sum_by, count_by, ◌⊎◌, ⊎_elim, sym, refl}
use Rattle.std.proofs.Common.{ap, subst, ◌∙◌, arith, All}
use Rattle.std.specs.List.{AllByRecursion as Each}
use Rattle.std.proofs.lemmas.Bool.{ne_eqb, eq-eqb}
use Rattle.std.proofs.lemmas.List.Elements.{All-head, All-tail}
use Rattle.std.proofs.lemmas.List.Sums.{sum_by-cons}
use Rattle.std.proofs.Math.Nat.{add-zero, add-suc, eq-or-lt_of_le}
use Rattle.count_ledger.specs.Rule.{Among}
use Rattle.count_ledger.proofs.Filters.{count_by-cons}

equal_or_below : (r n : ℕ) → r ≤ n → (r ≡ n) ⊎ (r < n)
equal_or_below r n le = eq-or-lt_of_le le

-- the sum of f at the numbers below n
pub upto : (ℕ → ℕ) → ℕ → ℕ
upto f zero = 0
upto f (suc n) = upto f n + f n

pub upto-none : (f : ℕ → ℕ) → upto f 0 ≡ 0
unfolding upto
upto-none f = refl

pub upto-same : (f g : ℕ → ℕ) (n : ℕ) → ((r : ℕ) → r < n → f r ≡ g r) → upto f n ≡ upto g n
unfolding upto
upto-same f g zero e = refl
upto-same f g (suc n) e = let a = upto-same f g n (λ r lt. e r (omega arith)) in
    let b = e n (omega arith) in omega arith

upto-zero : (n : ℕ) → upto (λ _. 0) n ≡ 0
unfolding upto
upto-zero zero = refl
upto-zero (suc n) = let a = upto-zero n in omega arith

upto-add : (f g : ℕ → ℕ) (n : ℕ) → upto (λ h. f h + g h) n ≡ upto f n + upto g n
unfolding upto
upto-add f g zero = refl
upto-add f g (suc n) = let a = upto-add f g n in omega arith

pub upto-more : (f : ℕ → ℕ) (a n : ℕ) → upto f (a + n) ≡ upto f a + upto (λ r. f (a + r)) n
unfolding upto
upto-more f a zero = ap (upto f) (add-zero a) ∙ sym (add-zero (upto f a))
upto-more f a (suc n) = ap (upto f) (add-suc a n) ∙ (let b = upto-more f a n in omega arith)

pub upto-one : (i n : ℕ) → i < n → upto (λ r. cond (r == i) 1 0) n ≡ 1
unfolding upto
upto-one i zero lt = absurd (omega arith)
upto-one i (suc n) lt =
    ⊎_elim
    (λ e. let none : upto (λ r. cond (r == i) 1 0) n ≡ 0 =
    upto-same (λ r. cond (r == i) 1 0) (λ _. 0) n (λ r l. ap (λ (b : Bool). cond b 1 0) (ne_eqb r i (λ q. omega arith)))
    ∙ upto-zero n in
    let here : ◌≡◌ {A = ℕ} (cond (n == i) 1 0) 1 = ap (λ (b : Bool). cond b 1 0) (eq-eqb n i (omega arith)) in
    omega arith)
    (λ l. let one = upto-one i n (omega arith) in
    let elsewhere : ◌≡◌ {A = ℕ} (cond (n == i) 1 0) 0 = ap (λ (b : Bool). cond b 1 0) (ne_eqb n i (λ q. omega arith)) in
    omega arith)
    (equal_or_below i n (omega arith))

pub upto-least : (f : ℕ → ℕ) (n : ℕ) → ((r : ℕ) → r < n → 0 < f r) → n ≤ upto f n
unfolding upto
upto-least f zero e = omega arith
upto-least f (suc n) e = let a = upto-least f n (λ r lt. e r (omega arith)) in let b = e n (omega arith) in omega arith

upto-most : (f : ℕ → ℕ) (n : ℕ) → ((r : ℕ) → r < n → f r ≤ 1) → upto f n ≤ n
unfolding upto
upto-most f zero e = omega arith
upto-most f (suc n) e = let a = upto-most f n (λ r lt. e r (omega arith)) in let b = e n (omega arith) in omega arith

upto-full : (f : ℕ → ℕ) (n : ℕ) → ((r : ℕ) → r < n → f r ≤ 1) → n ≤ upto f n → (r : ℕ) → r < n → f r ≡ 1
unfolding upto
upto-full f zero e full r lt = absurd (omega arith)
upto-full f (suc n) e full r lt =
    let most = upto-most f n (λ q l. e q (omega arith)) in
    let last = e n (omega arith) in
    ⊎_elim (λ is. subst (λ (q : ℕ). f q ≡ 1) (sym is) (omega arith))
    (λ l. upto-full f n (λ q l'. e q (omega arith)) (omega arith) r l)
    (equal_or_below r n (omega arith))

module _ {X : Type 0} (hits : X → ℕ → Bool) where
  -- how many numbers below n are hit, each as often as it is
  pub upto-count : (width : X → ℕ) (n : ℕ) (xs : List X) → All (λ x. upto (λ h. cond (hits x h) 1 0) n ≡ width x) xs
      → upto (λ h. count_by (λ x. hits x h) xs) n ≡ sum_by width xs
  upto-count width n [] w = upto-zero n
  upto-count width n (x ∷ xs) w =
      let W : X → Type 0 = λ y. upto (λ h. cond (hits y h) 1 0) n ≡ width y in
      upto-same (λ h. count_by (λ y. hits y h) (x ∷ xs)) (λ h. cond (hits x h) 1 0 + count_by (λ y. hits y h) xs) n
      (λ h lt. count_by-cons (λ y. hits y h) x xs)
      ∙ upto-add (λ h. cond (hits x h) 1 0) (λ h. count_by (λ y. hits y h) xs) n
      ∙ ap (λ (k : ℕ). k + upto (λ h. count_by (λ y. hits y h) xs) n) (All-head W x xs w)
      ∙ ap (λ (k : ℕ). width x + k) (upto-count width n xs (All-tail W x xs w))
      ∙ sym (sum_by-cons width x xs)

  other : (a b : Bool) → (a && b) ≡ false → a ≡ true → ◌≡◌ {A = ℕ} (cond b 1 0) 0
  other true true e t = absurd cc
  other true false e t = refl
  other false b e t = absurd cc

  no_other : (x : X) (xs : List X) (h : ℕ) → hits x h ≡ true → Each (λ y. (k : ℕ) → (hits x k && hits y k) ≡ false) xs →
      count_by (λ y. hits y h) xs ≡ 0
  no_other x [] h t e = refl
  no_other x (y ∷ ys) h t e = let a = no_other x ys h t e.1 in let b = other (hits x h) (hits y h) (e.0 h) t in
      let c = count_by-cons (λ z. hits z h) y ys in
      omega arith

  at_most_one : (P : X → Type 0) (xs : List X) (h : ℕ) → Among P (λ x y. (k : ℕ) → (hits x k && hits y k) ≡ false) xs →
      count_by (λ y. hits y h) xs ≤ 1
  at_most_one P [] h a = omega arith
  at_most_one P (x ∷ xs) h a = go (at_most_one P xs h a.2) (hits x h) refl where
    go : count_by (λ y. hits y h) xs ≤ 1 → (b : Bool) → hits x h ≡ b → count_by (λ y. hits y h) (x ∷ xs) ≤ 1
    go few true e = let none = no_other x xs h e a.1 in let c = count_by-cons (λ z. hits z h) x xs in
        let one : ◌≡◌ {A = ℕ} (cond (hits x h) 1 0) 1 = ap (λ (t : Bool). cond t 1 0) e in omega arith
    go few false e = let c = count_by-cons (λ z. hits z h) x xs in let none : ◌≡◌ {A = ℕ} (cond (hits x h) 1 0) 0 =
        ap (λ (t : Bool). cond t 1 0) e in
        omega arith

  pub hit_once : (P : X → Type 0) (width : X → ℕ) (n : ℕ) (xs : List X) →
      Among P (λ x y. (k : ℕ) → (hits x k && hits y k) ≡ false) xs
      → All (λ x. upto (λ h. cond (hits x h) 1 0) n ≡ width x) xs → n ≤ sum_by width xs → (h : ℕ) → h < n →
      count_by (λ x. hits x h) xs ≡ 1
  hit_once P width n xs apart widths enough =
      upto-full (λ h. count_by (λ x. hits x h) xs) n (λ h lt. at_most_one P xs h apart)
      (let w = upto-count width n xs widths in omega arith)
