-- The rule, when the books of one seat change, are parted, or are joined with another seat's.
use Rattle.std.proofs.Common.{◌≡◌, ◌≢◌, ℕ, zero, suc, List, [], ◌∷◌, ◌++◌, length, set, inl, inr, ◌⊎◌, ⊎_elim, sym}
use Rattle.std.proofs.Common.{refl, ap, subst, ◌∙◌}
use mathlib.Core.Option.{some, some-injective, some-ne-none}
use lib.ListN.{get_elem?}
use Rattle.atomic_table.proofs.Lists.{at_set, set_else}
use Rattle.count_ledger.specs.Rule.{Among, Across, AmongSeats}
use Rattle.count_ledger.proofs.Together.{Across-left, Across-right, Across-append, Across-nil, Across-turn}
use Rattle.count_ledger.proofs.Together.{Among-append, Among-left, Among-right}
use Rattle.count_ledger.proofs.Together.{Across-from_among}

-- the last of a list stands at its length
at_push : {A : Type 0} (l : List A) (a b : A) (j : ℕ) → get_elem? (l ++ a ∷ []) j ≡ some b → (get_elem? l j ≡ some b)
    ⊎ ((j ≡ length l) × (a ≡ b))
at_push [] a b zero e = inr (refl, some-injective a b e)
at_push [] a b (suc j) e = absurd (some-ne-none b (sym e))
at_push (x ∷ xs) a b zero e = inl e
at_push (x ∷ xs) a b (suc j) e = ⊎_elim (λ l. inl l) (λ r. inr (ap suc r.0, r.1)) (at_push xs a b j e)

module _ {A : Type 0} (R : A → A → Type 0) (turn : (x y : A) → R x y → R y x) where
  -- one seat's books become others, which suit the other seats' books as those before did
  pub AmongSeats-changed : (P Q : A → Type 0) (seats : List (List A)) (id : ℕ) (v w : List A) → AmongSeats P R seats →
      get_elem? seats id ≡ some v → Among Q R w
      → ((u : List A) → Among P R u → Across R v u → Among Q R u × Across R w u) → AmongSeats Q R (set seats id w)
  AmongSeats-changed P Q seats id v w h at fit others =
      let rest : (i : ℕ) (u : List A) → i ≢ id → get_elem? seats i ≡ some u
      → Among Q R u × Across R w u = λ i u ne e. others u (h.within i u e) (h.across id i v u (λ q. ne (sym q)) at e) in
      record {
        within = λ i u e. ⊎_elim (λ here. subst (Among Q R) here.1 fit) (λ else. (rest i u else.0 else.1).0)
            (at_set seats id i w u e);
        across = λ i j u x ne ei ej. ⊎_elim
            (λ here. ⊎_elim (λ here'. absurd (ne (here.0 ∙ sym here'.0)))
            (λ else. subst (λ y. Across R y x) here.1 (rest j x else.0 else.1).1)
            (at_set seats id j w x ej))
            (λ else. ⊎_elim (λ here. subst (Across R u) here.1 (Across-turn R turn w u (rest i u else.0 else.1).1))
            (λ else'. h.across i j u x ne else.1 else'.1) (at_set seats id j w x ej))
            (at_set seats id i w u ei);
      }

  module _ (P : A → Type 0) where
    pub AmongSeats-more : (seats : List (List A)) (w : List A) → AmongSeats P R seats → Among P R w
        → ((i : ℕ) (u : List A) → get_elem? seats i ≡ some u → Across R w u) → AmongSeats P R (seats ++ w ∷ [])
    AmongSeats-more seats w h fit others = record {
      within = λ i u e. ⊎_elim (λ old. h.within i u old) (λ new. subst (Among P R) new.1 fit) (at_push seats w u i e);
      across = λ i j u x ne ei ej. ⊎_elim
          (λ old. ⊎_elim (λ old'. h.across i j u x ne old old')
          (λ new. subst (Across R u) new.1 (Across-turn R turn w u (others i u old)))
          (at_push seats w x j ej))
          (λ new. ⊎_elim (λ old. subst (λ y. Across R y x) new.1 (others j x old))
          (λ new'. absurd (ne (new.0 ∙ sym new'.0))) (at_push seats w x j ej))
          (at_push seats w u i ei);
    }

    -- a seat keeps the left books, and a new one has the right
    pub AmongSeats-parted : (seats : List (List A)) (id : ℕ) (left right : List A) → AmongSeats P R seats →
        get_elem? seats id ≡ some (left ++ right)
        → AmongSeats P R (set seats id left ++ right ∷ [])
    AmongSeats-parted seats id left right h at =
        let fit : Among P R (left ++ right) = h.within id (left ++ right) at in
        AmongSeats-more (set seats id left) right
        (AmongSeats-changed P P seats id (left ++ right) left h at (Among-left P R left right fit)
        (λ u f a. (f, Across-left R left right u a)))
        (Among-right P R left right fit)
        (λ i u e. ⊎_elim
        (λ here. subst (Across R right) here.1 (Across-turn R turn left right (Across-from_among P R left right fit)))
        (λ else. Across-right R left right u (h.across id i (left ++ right) u (λ q. else.0 (sym q)) at else.1))
        (at_set seats id i left u e))

    -- a seat takes in the books of another, which has none then
    pub AmongSeats-joined : (seats : List (List A)) (id other : ℕ) (v w : List A) → AmongSeats P R seats →
        get_elem? seats id ≡ some v → other ≢ id
        → get_elem? (set seats id (v ++ w)) other ≡ some w → AmongSeats P R (set (set seats id (v ++ w)) other [])
    AmongSeats-joined seats id other v w h at ne at' =
        let both : List A = v ++ w in
        let there : get_elem? seats other ≡ some w = sym (set_else seats id other both ne) ∙ at' in
        let fit : Among P R both = Among-append P R v w (h.within id v at) (h.within other w there)
        (h.across id other v w (λ q. ne (sym q)) at there) in
        let rest : (i : ℕ) (u : List A) → i ≢ other → i ≢ id → get_elem? seats i ≡ some u → Across R both u =
        λ i u n m e. Across-append R v w u (h.across id i v u (λ q. m (sym q)) at e)
        (h.across other i w u (λ q. n (sym q)) there e) in
        let one : (i j : ℕ) (u x : List A) → i ≢ j → i ≢ other → j ≢ other → get_elem? (set seats id both) i ≡ some u →
        get_elem? (set seats id both) j ≡ some x
        → Across R u x =
        λ i j u x n ni nj ei ej. ⊎_elim
        (λ here. ⊎_elim (λ here'. absurd (n (here.0 ∙ sym here'.0)))
        (λ else. subst (λ y. Across R y x) here.1 (rest j x nj else.0 else.1))
        (at_set seats id j both x ej))
        (λ else. ⊎_elim (λ here. subst (Across R u) here.1 (Across-turn R turn both u (rest i u ni else.0 else.1)))
        (λ else'. h.across i j u x n else.1 else'.1)
        (at_set seats id j both x ej))
        (at_set seats id i both u ei) in
        record {
          within = λ i u e. ⊎_elim (λ spent. subst (Among P R) spent.1 tt)
              (λ kept. ⊎_elim (λ here. subst (Among P R) here.1 fit) (λ else. h.within i u else.1)
              (at_set seats id i both u kept.1))
              (at_set (set seats id both) other i [] u e);
          across = λ i j u x n ei ej. ⊎_elim (λ spent. subst (λ y. Across R y x) spent.1 tt)
              (λ kept. ⊎_elim (λ spent. subst (Across R u) spent.1 (Across-nil R u))
              (λ kept'. one i j u x n kept.0 kept'.0 kept.1 kept'.1)
              (at_set (set seats id both) other j [] x ej))
              (at_set (set seats id both) other i [] u ei);
        }
