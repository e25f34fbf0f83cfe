-- The law of the completion game.
use Rattle.std.proofs.Common.{◌≡◌, ℕ, zero, suc, ◌+◌, ◌<◌, ◌≤◌, eq-eqb, ne_eqb, Bool, true, false, cond, List, [], ◌∷◌}
use Rattle.std.proofs.Common.{◌++◌, set, sym, refl, ap, ◌∙◌, subst}
use Rattle.std.proofs.Common.{arith}
use mathlib.Core.Logic.{dite}
use mathlib.Core.Option.{some, some-injective, some-ne-none}
use native.Mathlib.Decide.{ℕ_discrete}
use Rattle.std.proofs.lemmas.Bool.{false≢true}
use lib.ListN.{get_elem?}
use Rattle.atomic_table.proofs.Lists.{at_longer}
use Rattle.completers.specs.Game.{Event, fork, own, arrive, Position, start, number, IsNext, after, IsGame}
use Rattle.completers.specs.Game.{position_after, waiting, is_last, lasts}
use Rattle.completers.specs.Game.{IsComplete, OneLast}

-- the own ticket doesn't arrive before it is given out
abbrev Sound : Position → Type 0
Sound p = p.has_given ≡ false → get_elem? p.arrived 0 ≡ some false

waits : (bs : List Bool) (t : ℕ) → get_elem? bs t ≡ some false → 0 < waiting bs
waits [] t e = absurd (some-ne-none false (sym e))
waits (b ∷ bs) zero e = subst (λ (x : Bool). 0 < cond x 0 1 + waiting bs) (sym (some-injective b false e)) (omega arith)
waits (b ∷ bs) (suc t) e = let m = waits bs t e in let k : ℕ = cond b 0 1 in let w : ℕ = waiting bs in
    let m' : 0 < w = m in
    let r : 0 < k + w = omega arith in r

longer : (bs : List Bool) → waiting (bs ++ false ∷ []) ≡ waiting bs + 1
longer [] = refl
longer (b ∷ bs) = let e = longer bs in let k : ℕ = cond b 0 1 in let w : ℕ = waiting bs in
    ap (λ (z : ℕ). k + z) e ∙ (let g : k + (w + 1) ≡ k + w + 1 = omega arith in g)

sound_set : (bs : List Bool) (t : ℕ) → ¬ (t ≡ 0) → get_elem? bs 0 ≡ some false →
    get_elem? (set bs t true) 0 ≡ some false
sound_set [] t n e = e
sound_set (b ∷ bs) zero n e = absurd (n refl)
sound_set (b ∷ bs) (suc t) n e = e

is_true : (b : Bool) → ¬ (b ≡ false) → b ≡ true
is_true true n = refl
is_true false n = absurd (n refl)

sound_after : (p : Position) (e : Event) → Sound p → IsNext p e → Sound (after p e)
sound_after p fork s a = λ g. at_longer p.arrived (false ∷ []) 0 false (s g)
sound_after p own s a = λ g. absurd (false≢true (sym g))
sound_after p (arrive t) s a = λ g. sound_set p.arrived t (λ z. false≢true (sym g ∙ a.1 z)) (s g)

-- at 0 no event is allowed
over : (p : Position) (es : List Event) → Sound p → number p ≡ 0 → IsGame p es → es ≡ []
over p [] s z g = refl
over p (fork ∷ es) s z g = let m = waits p.arrived 0 (s g.0) in absurd (omega arith)
over p (own ∷ es) s z g = let m = waits p.arrived 0 (s g.0) in absurd (omega arith)
over p (arrive t ∷ es) s z g = let m = waits p.arrived t g.0.0 in absurd (omega arith)

abbrev Ends : Position → List Event → Type 0
Ends p es = (before : List Event) × (t : ℕ) × (es ≡ before ++ arrive t ∷ []) × (lasts p before ≡ 0) × (lasts p es ≡ 1)

abbrev Law : Position → List Event → Type 0
Law p es = (lasts p es ≤ 1) × (number (position_after p es) ≡ 0 → Ends p es)
    × (lasts p es ≡ 1 → IsComplete (position_after p es))

-- an event that isn't last
more : (p : Position) (e : Event) (es : List Event) → is_last p e ≡ false → Law (after p e) es → Law p (e ∷ es)
more p e es miss l = let n : (k : ℕ) → cond (is_last p e) 1 0 + k ≡ k = λ k. ap (λ (b : Bool). cond b 1 0 + k) miss
    ∙ (let g : 0 + k ≡ k = omega arith in g) in let here : lasts p (e ∷ es) ≡ lasts (after p e) es =
    n (lasts (after p e) es) in (
      subst (λ (k : ℕ). k ≤ 1) (sym here) l.0,
      (λ z. let r = l.1 z in
          (e ∷ r.0, r.1, ap (λ (xs : List Event). e ∷ xs) r.2, n (lasts (after p e) r.0) ∙ r.3, here ∙ r.4)),
      (λ one. l.2 (sym here ∙ one)),
    )

law : (p : Position) (es : List Event) → Sound p → 0 < number p → IsGame p es → Law p es
law p [] s w g = (omega arith, (λ z. absurd (omega arith)), (λ one. absurd (omega arith)))
law p (fork ∷ es) s w g = more p fork es refl
    (law (after p fork) es (sound_after p fork s g.0) (let e = longer p.arrived in omega arith) g.1)
law p (own ∷ es) s w g = more p own es refl (law (after p own) es (sound_after p own s g.0) w g.1)
law p (arrive t ∷ es) s w g = let q : Position = after p (arrive t) in let sq = sound_after p (arrive t) s g.0 in
    dite (ℕ_discrete (number q) 0)
    (λ z. let none : es ≡ [] = over q es sq z g.1 in let hit : is_last p (arrive t) ≡ true = eq-eqb (number q) 0 z in
    subst (λ (xs : List Event). Law p (arrive t ∷ xs)) (sym none)
    (let one : cond (is_last p (arrive t)) 1 0 + 0 ≡ 1 = ap (λ (b : Bool). cond b 1 0 + 0) hit in (
      (let k : ℕ = lasts p (arrive t ∷ []) in let o : k ≡ 1 = one in let r : k ≤ 1 = omega arith in r),
      (λ _. ([], t, refl, refl, one)),
      (λ _. (is_true q.has_given (λ f. let m = waits q.arrived 0 (sq f) in absurd (omega arith)), z)),
    )))
    (λ nz. more p (arrive t) es (ne_eqb (number q) 0 nz)
    (law q es sq (let k : ℕ = number q in let n : ¬ (k ≡ 0) = nz in let r : 0 < k = omega arith in r) g.1))

pub one_last : OneLast
one_last es g = let l = law start es (λ _. refl) (let r : 0 < 1 = omega arith in r) g in (l.0, (λ c. l.1 c.1), l.2)
