-- The steps on a place keep the rule.
use Rattle.std.proofs.Common.{◌≡◌, ℕ, zero, suc, ◌+◌, ◌*◌, ◌/◌, ◌<◌, ◌≤◌, eqb, ◌≢◌, ◌⊎◌, List, []}
use Rattle.std.proofs.Common.{◌∷◌, map, length, get_or, set, replicate, sym, refl, ap, ◌∙◌, subst, ⊎_elim}
use Rattle.std.proofs.Common.{arith, length-set, mul-le-mul_right}
use Rattle.std.proofs.lemmas.List.{length-map, length-replicate}
use Rattle.std.proofs.Math.Nat.{mul-div_cancel}
use Rattle.std.specs.Prelude.{IsSomeAnd}
use mathlib.Core.Option.{Option, none, some, some-injective, some-ne-none}
use lib.ListN.{get_elem?}
use prog.Atomic.{either}
use Rattle.atomic_table.specs.Table.{State, Me, step, Act, keeps, takes, gives, Valid, carried_after, stepped, put_back, opening, Allows, Enters}
use Rattle.atomic_table.proofs.Lists.{at_set, exchanged, set_again}
use Rattle.lock_table.specs.declared.terms.Terms.{Terms}
use Rattle.lock_table.specs.Places.{word_of, present, IsHome, AreHome}
use Rattle.lock_table.specs.Plays.{Sits, Gives, Took, Takes}
use Rattle.lock_table.specs.Taken.{taken, places}

pub one_word : (stride at other : ℕ) → 0 < stride → word_of stride at ≡ word_of stride other → at ≡ other
one_word stride at other pos e = let same : at * stride ≡ other * stride = omega arith in
    sym (mul-div_cancel at pos) ∙ ap (λ k. k / stride) same ∙ mul-div_cancel other pos

pub word_within : (stride at slots : ℕ) → 0 < stride → at < slots → word_of stride at < word_of stride slots
word_within stride at slots pos near =
    let a : suc at * stride ≤ slots * stride = mul-le-mul_right stride near in
    omega (arith, Rattle.std.proofs.Common.suc-mul at stride)

pub some_at : {A : Type 0} (l : List A) (i : ℕ) → i < length l → (a : A) × (get_elem? l i ≡ some a)
some_at [] i h = absurd (omega arith)
some_at (x ∷ xs) zero h = (x, refl)
some_at (x ∷ xs) (suc i) h = some_at xs i (omega arith)

pub at_here : (l : List ℕ) (i : ℕ) → i < length l → get_elem? l i ≡ some (get_or l i 0)
at_here [] i h = absurd (omega arith)
at_here (x ∷ xs) zero h = refl
at_here (x ∷ xs) (suc i) h = at_here xs i (omega arith)

pub at_replicate : {A : Type 0} (n k : ℕ) (a b : A) → get_elem? (replicate n a) k ≡ some b → a ≡ b
at_replicate zero k a b e = absurd (some-ne-none b (sym e))
at_replicate (suc n) zero a b e = some-injective a b e
at_replicate (suc n) (suc k) a b e = at_replicate n k a b e

pub at_some : {A : Type 0} (l : List A) (i : ℕ) (h : Option A) → get_elem? (map some l) i ≡ some h
    → (a : A) × (h ≡ some a) × (get_elem? l i ≡ some a)
at_some [] i h e = absurd (some-ne-none h (sym e))
at_some (x ∷ xs) zero h e = (x, sym (some-injective (some x) h e), refl)
at_some (x ∷ xs) (suc i) h e = at_some xs i h e

-- a seat that has one place has its value
pub one_taken : {X : Type 0} (c : List (ℕ × X)) (at : ℕ) → places c ≡ at ∷ [] → (x : X) × (c ≡ (at, x) ∷ [])
one_taken [] at e = grind (arith, e)
one_taken ((k, x) ∷ []) at e = (x, ap (λ (n : ℕ). (n, x) ∷ []) (grind (arith, e)))
one_taken (a ∷ b ∷ c) at e = grind (arith, e)

pub some_taken : {X : Type 0} (P : X → Type 0) (c : List (ℕ × X)) (at : ℕ) (x : X) → c ≡ (at, x) ∷ [] → IsSomeAnd (taken c) P → P x
some_taken {X} P c at x e p = subst (λ l. IsSomeAnd (taken l) P) e p

module _ {X T : Type 0} (fits : T → ℕ → ℕ → X → Type 0) where
  abbrev Goes : Terms T → State X (Terms T) → ℕ → ℕ → Me X (Terms T) → (ℕ → Me X (Terms T) → Type 0) → ℕ → Type 0
  Goes t s i id me then k = (w : Terms T) × (a : Act X) × Valid s.homes me.1 a
      × AreHome fits t (stepped s i k id me.1 w a) × then (get_or s.words i 0) (w, carried_after me.1 a)

  -- the word of a place and what is at home there change together
  pub changed : (t : Terms T) (s : State X (Terms T)) → AreHome fits t s → 0 < t.stride
      → (at m : ℕ) (home : Option X) (vs : List (Terms T)) → IsHome fits t.tag at m home
      → AreHome fits t (record { words = set s.words (word_of t.stride at) m; homes = set s.homes at home; views = vs })
  changed t s o pos at m home vs is = record {
    wide = length-set s.words (word_of t.stride at) m ∙ o.wide ∙ ap (word_of t.stride) (sym (length-set s.homes at home));
    at_each = λ other n h word there.
        ⊎_elim
        (λ w. ⊎_elim (λ r. subst (λ (k : ℕ). IsHome fits t.tag k n h) (sym r.0)
        (subst (λ (k : ℕ). IsHome fits t.tag at k h) w.1 (subst (λ (k : Option X). IsHome fits t.tag at m k) r.1 is)))
        (λ r. absurd (r.0 (one_word t.stride other at pos w.0))) (at_set s.homes at other home h there))
        (λ w. ⊎_elim (λ r. absurd (w.0 (ap (word_of t.stride) r.0))) (λ r. o.at_each other n h w.1 r.1) (at_set s.homes at other home h there))
        (at_set s.words (word_of t.stride at) (word_of t.stride other) m n word);
  }

  pub sits : (t : Terms T) (slots i : ℕ) → Enters (AreHome fits t) slots i (λ n w. Sits {X = X} (step slots i 0 0 none) (t, []) n (w, []))
  sits t slots i s o wide _ = (t, record { wide = o.wide; at_each = o.at_each }, refl)

  pub takes_it : (t : Terms T) (slots id : ℕ) (me : Me X (Terms T)) (at i old : ℕ) → me.0 ≡ t
      → i ≡ word_of t.stride at → 0 < t.stride → at < slots → old ≢ 2
      → Allows (AreHome fits t) slots id me i (λ n. either (eqb n old) 2 n) (Takes fits (step slots i old 2 none) me)
  takes_it t slots id me at i old knows is pos near out s o wide _ _ =
      let n : ℕ = get_or s.words i 0 in
      let near' : at < length s.homes = subst (λ (k : ℕ). at < k) (sym wide) near in
      let within : i < length s.words = subst (λ (k : ℕ). k < length s.words) (sym is)
      (subst (λ (k : ℕ). word_of t.stride at < k) (sym o.wide) (word_within t.stride at (length s.homes) pos near')) in
      let word : get_elem? s.words (word_of t.stride at) ≡ some n = subst (λ (k : ℕ). get_elem? s.words k ≡ some n) is (at_here s.words i within) in
      let there = some_at s.homes at near' in
      exchanged n old 2 (Goes t s i id me (Takes fits (step slots i old 2 none) me))
      (λ e. let home = o.at_each at n there.0 word there.1 (λ held. out (sym e ∙ held)) in (
        me.0,
        takes at home.0,
        there.1 ∙ ap some home.1,
        subst (λ (k : ℕ). AreHome fits t (stepped s k 2 id me.1 me.0 (takes at home.0))) (sym is)
            (changed t s o pos at 2 none (set s.views id me.0) (λ no. absurd (no refl))),
        (
          (λ hit other word_is. let same : at ≡ other = one_word t.stride at other pos
              (sym is ∙ word_is ∙ ap (λ (u : Terms T). word_of u.stride other) knows) in
              subst (λ (k : ℕ). Took fits me k old (me.0, (at, home.0) ∷ me.1)) same (
                home.0,
                refl,
                (λ kind of_kind. subst (λ (u : Terms T). fits u.tag at kind home.0) (sym knows) (home.2 kind (e ∙ of_kind))),
              )),
          (λ miss. absurd (miss e)),
        ),
      ))
      (λ ne. (
        me.0,
        keeps,
        tt,
        subst (λ (ws : List ℕ). AreHome fits t (record { words = ws; homes = s.homes; views = set s.views id me.0 }))
            (sym (set_again s.words i n (at_here s.words i within))) (record { wide = o.wide; at_each = o.at_each }),
        ((λ hit. absurd (ne hit)), (λ miss. refl)),
      ))

  -- what is given back fits where the word says that it is there
  pub gives_it : (t : Terms T) (slots id : ℕ) (me : Me X (Terms T)) (at i new : ℕ) (x : X) (c : List (ℕ × X))
      → me.1 ≡ (at, x) ∷ c → i ≡ word_of t.stride at → 0 < t.stride
      → ((kind : ℕ) → new ≡ present kind → fits t.tag at kind x)
      → Allows (AreHome fits t) slots id me i (λ _. new) (λ _. Gives (step slots i new 0 none) me new)
  gives_it t slots id me at i new x c has is pos fit s o wide _ _ = (
    me.0,
    gives,
    tt,
    subst (λ (k : ℕ). AreHome fits t (stepped s k new id me.1 me.0 gives)) (sym is)
        (subst (λ (l : List (ℕ × X)). AreHome fits t
        (record { words = set s.words (word_of t.stride at) new; homes = put_back s.homes l; views = set s.views id me.0 }))
        (sym has)
        (changed t s o pos at new (some x) (set s.views id me.0) (λ _. (x, refl, fit)))),
    refl,
  )

  -- a new table of values under one word
  pub opens : (t : Terms T) (word n : ℕ) (xs : List X) → n ≡ 8 + length xs * t.stride
      → ((at kind : ℕ) (x : X) → word ≡ present kind → get_elem? xs at ≡ some x → fits t.tag at kind x)
      → AreHome fits t (opening (replicate n word) xs t)
  opens t word n xs many fit = record {
    wide = length-replicate n word ∙ many ∙ ap (word_of t.stride) (sym (length-map xs some));
    at_each = λ at m home e there.
        let same = at_replicate n (word_of t.stride at) word m e in
        let x = at_some xs at home there in
        λ _. (x.0, x.1, (λ kind is. fit at kind x.0 (same ∙ is) x.2));
  }
