-- Classes that have no hash in common cover every hash just where as many hashes side by side as a table has bins at
-- most have as many of them as there are.
use Rattle.std.proofs.Common.{◌≡◌, ℕ, zero, suc, ◌+◌, ◌-◌, ◌*◌, ◌/◌, ◌%◌, ◌^◌, ◌<◌, ◌≤◌, ◌==◌, Bool, true, false}
use Rattle.std.proofs.Common.{cond}
use Rattle.std.proofs.Common.{List, [], ◌∷◌, MatchBool, sum_by}
use Rattle.std.proofs.Common.{count_by, sym, refl, ap, subst, ◌∙◌, arith, All}
use Rattle.std.specs.Int.{◌∣◌}
use Rattle.std.proofs.lemmas.Bool.{eqb-true, eq-eqb}
use Rattle.std.proofs.lemmas.List.Elements.{All-weaker, All-head, All-tail}
use Rattle.std.proofs.lemmas.List.Sums.{sum_by-cons}
use Rattle.std.proofs.lemmas.Nat.{mod-mul-add, pow-add}
use Rattle.std.proofs.Math.Nat.{mod-mod_of_dvd, dvd-mul_left, mul-div_cancel, suc-mul, zero-mul}
use Rattle.hashkeys.specs.Classes.{ClassView, IsClass, AreApart, covers, covering, CoverAll, CoverOnce}
use Rattle.hashkeys.specs.Limits.{most_bins}
use Rattle.count_ledger.specs.Rule.{Among}
use Rattle.count_ledger.specs.Tokens.{AreWide}
use Rattle.count_ledger.proofs.Tallies.{upto, upto-none, upto-same, upto-more, upto-one, upto-least, upto-count}
use Rattle.count_ledger.proofs.Tallies.{hit_once}

abbrev covered : ClassView → ℕ → ℕ
covered c h = cond (covers c h) 1 0

upto-covered : (c : ClassView) → c.index < c.n → (m : ℕ) → upto (covered c) (m * c.n) ≡ m
upto-covered c lt zero = ap (upto (covered c)) (zero-mul c.n) ∙ upto-none (covered c)
upto-covered c lt (suc m) =
    let block : upto (λ r. covered c (m * c.n + r)) c.n ≡ 1 =
    upto-same (λ r. covered c (m * c.n + r)) (λ r. cond (r == c.index) 1 0) c.n
    (λ r l. ap (λ (x : ℕ). cond (x == c.index) 1 0) (mod-mul-add m c.n r l)) ∙ upto-one c.index c.n lt in
    let before : upto (covered c) (m * c.n) ≡ m = upto-covered c lt m in
    ap (upto (covered c)) (suc-mul m c.n) ∙ upto-more (covered c) (m * c.n) c.n ∙ omega arith

-- a class's size goes into the most
rounds : (c : ClassView) → IsClass c → (m : ℕ) × (m * c.n ≡ most_bins)
rounds c ((e, le, is), lt) = (
  2 ^ (26 - e),
  ap (λ (x : ℕ). 2 ^ (26 - e) * x) is
      ∙ (sym (pow-add 2 (26 - e) e) ∙ ap (λ (x : ℕ). 2 ^ x) (let s : (26 - e) + e ≡ 26 = omega arith in s)),
)

width : (c : ClassView) → IsClass c → upto (covered c) most_bins ≡ most_bins / c.n
width c k =
    let (m, is) = rounds c k in
    ap (upto (covered c)) (sym is) ∙ upto-covered c k.1 m ∙ sym (mul-div_cancel m (let l = k.1 in omega arith))
    ∙ ap (λ (x : ℕ). x / c.n) is

covers-mod : (c : ClassView) → IsClass c → (h : ℕ) → covers c (h % most_bins) ≡ covers c h
covers-mod c k h =
    let (m, is) = rounds c k in
    ap (λ (x : ℕ). x == c.index) (mod-mod_of_dvd c.n {b = most_bins} h (subst (λ (x : ℕ). c.n ∣ x) is (dvd-mul_left c.n m)))

covering-mod : (classes : List ClassView) → All IsClass classes → (h : ℕ) →
    covering classes (h % most_bins) ≡ covering classes h
covering-mod [] k h = refl
covering-mod (c ∷ cs) k h =
    sum_by-cons (λ (d : ClassView). covered d (h % most_bins)) c cs
    ∙ ap (λ (b : Bool). cond b 1 0 + covering cs (h % most_bins)) (covers-mod c (All-head IsClass c cs k) h)
    ∙ ap (λ (n : ℕ). covered c h + n) (covering-mod cs (All-tail IsClass c cs k) h)
    ∙ sym (sum_by-cons (λ (d : ClassView). covered d h) c cs)

widths : (classes : List ClassView) → All IsClass classes → All (λ c. upto (covered c) most_bins ≡ most_bins / c.n) classes
widths classes = All-weaker IsClass (λ c. upto (covered c) most_bins ≡ most_bins / c.n) width classes

pub CoverOnce-wide : (P : ClassView → Type 0) (classes : List ClassView) → AreWide classes → Among P AreApart classes →
    CoverOnce classes
CoverOnce-wide P classes wide apart h =
    sym (covering-mod classes wide.lawful h)
    ∙ hit_once covers P (λ c. most_bins / c.n) most_bins classes apart (widths classes wide.lawful) wide.wide
    (h % most_bins) (omega arith)

pub CoverAll-once : (classes : List ClassView) → CoverOnce classes → CoverAll classes
CoverAll-once classes once h lt = let one = once h in omega arith

wide_from_cover : (classes : List ClassView) → All IsClass classes → CoverAll classes →
    most_bins ≤ sum_by (λ c. most_bins / c.n) classes
wide_from_cover classes lawful all =
    let w = upto-count covers (λ c. most_bins / c.n) most_bins classes (widths classes lawful) in
    let least = upto-least (λ h. count_by (λ c. covers c h) classes) most_bins (λ h lt. all h (omega arith)) in
    omega arith

-- what a walk over all classes, which takes their widths from the most, has left at its end
pub wide_by_rest : (left : ℕ) (classes : List ClassView) → left ≡ most_bins - sum_by (λ c. most_bins / c.n) classes →
    All IsClass classes
    → MatchBool (left == 0) (AreWide classes) (CoverAll classes → ⊥)
wide_by_rest left classes is lawful = go (left == 0) refl where
  go : (b : Bool) → (left == 0) ≡ b → MatchBool b (AreWide classes) (CoverAll classes → ⊥)
  go true e = let none = eqb-true left 0 e in record { lawful = lawful; wide = omega arith }
  go false e = λ all. let wide = wide_from_cover classes lawful all in let f : left ≡ 0 = omega arith in
      let t = eq-eqb left 0 f in absurd cc
