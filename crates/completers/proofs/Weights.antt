-- Sums over lists, and a right that is found by its weight.
use Rattle.std.proofs.Common.{◌≡◌, ℕ, zero, suc, ◌+◌, ◌<◌, ◌≤◌, ◌≢◌, eqb, eq-eqb, ne_eqb, Bool, cond, List, [], ◌∷◌}
use Rattle.std.proofs.Common.{◌++◌, length, set, sym, refl, ap, ◌∙◌}
use Rattle.std.proofs.Common.{subst, arith}
use mathlib.Core.Logic.{dite}
use mathlib.Core.Option.{some, some-injective, some-ne-none}
use native.Mathlib.Decide.{ℕ_discrete}
use lib.ListN.{get_elem?}
use Rattle.completers.specs.Rule.{total, indexed}
use Rattle.completers.specs.declared.rule.Above.{Above}
use Rattle.completers.specs.declared.rule.Right.{Right}
use Rattle.completers.specs.declared.rule.Right.TheVariants.{Unopened, Opened, Waits, Fills, Counted}

module _ {A : Type 0} where
  pub total_set : (f : A → ℕ) (l : List A) (i : ℕ) (a b : A) → get_elem? l i ≡ some a →
      total f (set l i b) + f a ≡ total f l + f b
  total_set f [] i a b e = absurd (some-ne-none a (sym e))
  total_set f (x ∷ xs) zero a b e = let s : f x ≡ f a = ap f (some-injective x a e) in let n : ℕ = total f xs in
      let g : f b + n + f a ≡ f x + n + f b = omega arith in g
  total_set f (x ∷ xs) (suc i) a b e = let r = total_set f xs i a b e in let n : ℕ = total f xs in
      let m : ℕ = total f (set xs i b) in
      let r' : m + f a ≡ n + f b = r in let g : f x + m + f a ≡ f x + n + f b = omega arith in g

  pub total_append : (f : A → ℕ) (l m : List A) → total f (l ++ m) ≡ total f l + total f m
  total_append f [] m = let n : ℕ = total f m in let g : n ≡ 0 + n = omega arith in g
  total_append f (x ∷ xs) m = let r = total_append f xs m in let a : ℕ = total f xs in let b : ℕ = total f m in
      let c : ℕ = total f (xs ++ m) in let r' : c ≡ a + b = r in let g : f x + c ≡ f x + a + b = omega arith in g

  pub total_at : (f : A → ℕ) (l : List A) (i : ℕ) (a : A) → get_elem? l i ≡ some a → f a ≤ total f l
  total_at f [] i a e = absurd (some-ne-none a (sym e))
  total_at f (x ∷ xs) zero a e = let s : f x ≡ f a = ap f (some-injective x a e) in let n : ℕ = total f xs in
      let g : f a ≤ f x + n = omega arith in g
  total_at f (x ∷ xs) (suc i) a e = let r = total_at f xs i a e in let n : ℕ = total f xs in let r' : f a ≤ n = r in
      let g : f a ≤ f x + n = omega arith in g

  pub indexed_set : (f : ℕ → A → ℕ) (k : ℕ) (l : List A) (i : ℕ) (a b : A) → get_elem? l i ≡ some a
      → indexed f k (set l i b) + f (k + i) a ≡ indexed f k l + f (k + i) b
  indexed_set f k [] i a b e = absurd (some-ne-none a (sym e))
  indexed_set f k (x ∷ xs) zero a b e = let z : k + 0 ≡ k = omega arith in
      subst (λ (j : ℕ). f k b + indexed f (k + 1) xs + f j a ≡ f k x + indexed f (k + 1) xs + f j b) (sym z)
      (let s : f k x ≡ f k a = ap (f k) (some-injective x a e) in let n : ℕ = indexed f (k + 1) xs in
      let g : f k b + n + f k a ≡ f k x + n + f k b = omega arith in g)
  indexed_set f k (x ∷ xs) (suc i) a b e = let z : k + 1 + i ≡ k + suc i = omega arith in
      let r = indexed_set f (k + 1) xs i a b e in
      subst (λ (j : ℕ). f k x + indexed f (k + 1) (set xs i b) + f j a ≡ f k x + indexed f (k + 1) xs + f j b) z
      (let n : ℕ = indexed f (k + 1) xs in let m : ℕ = indexed f (k + 1) (set xs i b) in let u : ℕ = f (k + 1 + i) a in
      let v : ℕ = f (k + 1 + i) b in let r' : m + u ≡ n + v = r in let g : f k x + m + u ≡ f k x + n + v =
      omega arith in g)

  pub indexed_at : (f : ℕ → A → ℕ) (k : ℕ) (l : List A) (i : ℕ) (a : A) → get_elem? l i ≡ some a →
      f (k + i) a ≤ indexed f k l
  indexed_at f k [] i a e = absurd (some-ne-none a (sym e))
  indexed_at f k (x ∷ xs) zero a e = let z : k + 0 ≡ k = omega arith in
      subst (λ (j : ℕ). f j a ≤ f k x + indexed f (k + 1) xs) (sym z)
      (let s : f k x ≡ f k a = ap (f k) (some-injective x a e) in let n : ℕ = indexed f (k + 1) xs in
      let g : f k a ≤ f k x + n = omega arith in g)
  indexed_at f k (x ∷ xs) (suc i) a e = let z : k + 1 + i ≡ k + suc i = omega arith in
      subst (λ (j : ℕ). f j a ≤ f k x + indexed f (k + 1) xs) z
      (let r : f (k + 1 + i) a ≤ indexed f (k + 1) xs = indexed_at f (k + 1) xs i a e in
      let n : ℕ = indexed f (k + 1) xs in
      let m : ℕ = f (k + 1 + i) a in let g : m ≤ f k x + n = omega arith in g)

  pub indexed_snoc : (f : ℕ → A → ℕ) (k : ℕ) (l : List A) (a : A) →
      indexed f k (l ++ a ∷ []) ≡ indexed f k l + f (k + length l) a
  indexed_snoc f k [] a = let z : k + 0 ≡ k = omega arith in
      subst (λ (j : ℕ). f k a + 0 ≡ 0 + f j a) (sym z) (let m : ℕ = f k a in let g : m + 0 ≡ 0 + m = omega arith in g)
  indexed_snoc f k (x ∷ xs) a = let z : k + 1 + length xs ≡ k + suc (length xs) = omega arith in
      subst (λ (j : ℕ). f k x + indexed f (k + 1) (xs ++ a ∷ []) ≡ f k x + indexed f (k + 1) xs + f j a) z
      (let r = indexed_snoc f (k + 1) xs a in let n : ℕ = indexed f (k + 1) xs in
      let m : ℕ = indexed f (k + 1) (xs ++ a ∷ []) in
      let u : ℕ = f (k + 1 + length xs) a in let r' : m ≡ n + u = r in let g : f k x + m ≡ f k x + n + u =
      omega arith in g)

  pub indexed_same : (f g : ℕ → A → ℕ) (k : ℕ) (l : List A) →
      ((i : ℕ) (a : A) → get_elem? l i ≡ some a → f (k + i) a ≡ g (k + i) a)
      → indexed f k l ≡ indexed g k l
  indexed_same f g k [] e = refl
  indexed_same f g k (x ∷ xs) e = let z : k + 0 ≡ k = omega arith in
      let one : f k x ≡ g k x = subst (λ (j : ℕ). f j x ≡ g j x) z (e 0 x refl) in
      let rest = indexed_same f g (k + 1) xs (λ i a at. let y : k + suc i ≡ k + 1 + i = omega arith in
      subst (λ (j : ℕ). f j a ≡ g j a) y (e (suc i) a at)) in (λ t. one t + rest t)

  pub some_indexed : (f : ℕ → A → ℕ) (k : ℕ) (l : List A) → 0 < indexed f k l →
      (i : ℕ) × (a : A) × (get_elem? l i ≡ some a)
      × (0 < f (k + i) a)
  some_indexed f k [] pos = absurd (omega arith)
  some_indexed f k (x ∷ xs) pos = dite (ℕ_discrete (f k x) 0)
      (λ none. let n : ℕ = indexed f (k + 1) xs in let o : f k x ≡ 0 = none in let p : 0 < f k x + n = pos in
      let r = some_indexed f (k + 1) xs (let q : 0 < n = omega arith in q) in
      (suc r.0, r.1, r.2, (let z : k + 1 + r.0 ≡ k + suc r.0 = omega arith in subst (λ (j : ℕ). 0 < f j r.1) z r.3)))
      (λ one. (
        0,
        x,
        refl,
        (let z : k + 0 ≡ k = omega arith in
            subst (λ (j : ℕ). 0 < f j x) (sym z) (let m : ℕ = f k x in let o : m ≢ 0 = one in
            let q : 0 < m = omega arith in q)),
      ))

-- 1 where both numbers are the same
abbrev pub hit : ℕ → ℕ → ℕ → ℕ
hit a b n = cond (eqb a b) n 0

pub hit_yes : (a b n : ℕ) → 0 < hit a b n → (a ≡ b) × (0 < n)
hit_yes a b n pos = dite (ℕ_discrete a b) (λ e. (e, subst (λ (t : Bool). 0 < cond t n 0) (eq-eqb a b e) pos))
    (λ ne. let z = subst (λ (t : Bool). 0 < cond t n 0) (ne_eqb a b ne) pos in absurd (omega arith))

pub hit_self : (a n : ℕ) → hit a a n ≡ n
hit_self a n = ap (λ (t : Bool). cond t n 0) (eq-eqb a a refl)

-- the same of the tickets above
abbrev pub hits : List Above → List Above → ℕ → ℕ
hits [] [] n = n
hits (a ∷ ls) (b ∷ ms) n =
    hit a.node b.node (hit a.number b.number (hit a.lo b.lo (hit a.hi b.hi (hit a.forks b.forks (hits ls ms n)))))
hits _ _ n = 0

pub hits_yes : (l m : List Above) (n : ℕ) → 0 < hits l m n → (l ≡ m) × (0 < n)
hits_yes [] [] n pos = (refl, pos)
hits_yes [] (b ∷ ms) n pos = absurd (omega arith)
hits_yes (a ∷ ls) [] n pos = absurd (omega arith)
hits_yes (a ∷ ls) (b ∷ ms) n pos =
    let p = hit_yes a.node b.node _ pos in
    let q = hit_yes a.number b.number _ p.1 in
    let r = hit_yes a.lo b.lo _ q.1 in
    let s = hit_yes a.hi b.hi _ r.1 in
    let t = hit_yes a.forks b.forks _ s.1 in
    let u = hits_yes ls ms n t.1 in
    ((λ i. record { node = p.0 i; number = q.0 i; lo = r.0 i; hi = s.0 i; forks = t.0 i } ∷ u.0 i), u.1)

pub hits_self : (l : List Above) (n : ℕ) → hits l l n ≡ n
hits_self [] n = refl
hits_self (a ∷ ls) n = hit_self a.node _ ∙
    (hit_self a.number _ ∙ (hit_self a.lo _ ∙ (hit_self a.hi _ ∙ (hit_self a.forks _ ∙ hits_self ls n))))

abbrev pub same : Right → Right → ℕ
same (Unopened a) (Unopened b) = hit a b 1
same (Opened a b c d u) (Opened a' b' c' d' u') = hit a a' (hit b b' (hit c c' (hit d d' (hits u u' 1))))
same (Waits a b c d e u) (Waits a' b' c' d' e' u') = hit a a' (hit b b' (hit c c' (hit d d' (hit e e' (hits u u' 1)))))
same (Fills a b c d e x u) (Fills a' b' c' d' e' x' u') =
    hit a a' (hit b b' (hit c c' (hit d d' (hit e e' (hit x x' (hits u u' 1))))))
same (Counted a b) (Counted a' b') = hit a a' (hit b b' 1)
same _ _ = 0

pub same_self : (x : Right) → same x x ≡ 1
same_self (Unopened a) = hit_self a 1
same_self (Opened a b c d u) = hit_self a _ ∙ (hit_self b _ ∙ (hit_self c _ ∙ (hit_self d _ ∙ hits_self u 1)))
same_self (Waits a b c d e u) =
    hit_self a _ ∙ (hit_self b _ ∙ (hit_self c _ ∙ (hit_self d _ ∙ (hit_self e _ ∙ hits_self u 1))))
same_self (Fills a b c d e x u) = hit_self a _
    ∙ (hit_self b _ ∙ (hit_self c _ ∙ (hit_self d _ ∙ (hit_self e _ ∙ (hit_self x _ ∙ hits_self u 1)))))
same_self (Counted a b) = hit_self a _ ∙ hit_self b 1
